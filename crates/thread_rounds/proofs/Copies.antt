-- A copy of a frame is served as the frame is.
use Rattle.std.proofs.Common.{◌≡◌, ℕ, ◌-◌, List, [], ◌∷◌, refl, sym, ◌∙◌, ap, subst}
use Rattle.std.proofs.lemmas.List.{append-nil}
use Rattle.journal_model.specs.Book.{PlainBook}
use Rattle.journal_model.specs.Run.{PlainEvent, Start}
use Rattle.bt_without.specs.declared.events.Answer.{Answer}
use Rattle.thread_lock.specs.declared.sequential.Sequential.{Ghosts}
use Rattle.thread_lock.specs.declared.seat.Seat.{Seat}
use Rattle.thread_lock.specs.Seats.{calls_left}
use Rattle.bt_desk.specs.Histories.{Call}
use Rattle.thread_frames.specs.declared.frame.FrameIn.{FrameIn}
use Rattle.thread_frames.specs.declared.frame.Numbered.{Numbered}
use Rattle.bt_workers.specs.declared.result.FrameEnd.{FrameEnd}
use Rattle.bt_workers.specs.Served.{Gains, GoesOn, FrameBy}
use Rattle.bt_workers.specs.Worked.{ServesFrames}
use Rattle.thread_rounds.specs.Rounds.{ending, IsCopyAt}

by_frame : (left : ℕ) (copy frame : FrameIn) → copy.device ≡ frame.device → copy.bytes.items ≡ frame.bytes.items → (calls : List Call) (end : FrameEnd) → FrameBy left copy calls end → FrameBy left frame calls end
by_frame left copy frame device bytes [] end h = h
by_frame left copy frame device bytes (call ∷ calls) end h = (
  h.0,
  h.1 ∙ ap Start device,
  (h.2.0, h.2.1, subst (λ (items : List ℕ). GoesOn (left - 1) items h.2.0 calls end) bytes h.2.2),
)

module _ {g : Ghosts PlainBook PlainEvent Answer} where
  pub serves_copy : (all : List FrameIn) (it : Numbered) (seat after : Seat PlainBook PlainEvent Answer g) (calls : List Call) (end : FrameEnd) → IsCopyAt all it → Gains seat calls after → FrameBy (calls_left seat) it.frame calls end
      → ServesFrames all seat (ending it.number end ∷ []) after
  serves_copy all it seat after calls end copy gains by = record {
    calls = calls;
    gains = gains;
    frames = (
      calls,
      [],
      sym (append-nil calls),
      record { frame = copy.frame; at = copy.at; by = by_frame (calls_left seat) it.frame copy.frame copy.device copy.bytes calls end by },
      refl,
    );
  }
