-- What comes of the answer to a frame's start.
use Rattle.std.proofs.Common.{◌≡◌, ℕ, ◌+◌, ◌-◌, ◌<◌, Option, Result, List, [], ◌∷◌, ◌++◌, refl, sym, subst, arith}
use Rattle.bt_verify.specs.Program.{ProgramView}
use Rattle.journal_model.specs.Book.{PlainBook}
use Rattle.journal_model.specs.Run.{PlainEvent, Start}
use Rattle.journal_model.specs.declared.faults.StartFault.{StartFault}
use Rattle.bt_desk.specs.Answer.{Answer}
use Rattle.bt_desk.specs.Answer.TheVariants.{Started}
use Rattle.thread_lock.specs.declared.sequential.Sequential.{Ghosts}
use Rattle.thread_lock.specs.declared.seat.Seat.{Seat}
use Rattle.thread_lock.specs.History.{entry}
use Rattle.thread_lock.specs.Seats.{Called, number, calls_left}
use Rattle.bt_desk.specs.Histories.{Call}
use Rattle.thread_frames.specs.declared.frame.FrameIn.{FrameIn}
use Rattle.bt_workers.specs.declared.result.FrameEnd.{FrameEnd}
use Rattle.bt_workers.specs.declared.result.FrameEnd.TheVariants.{SeatSpent}
use Rattle.bt_workers.specs.Served.{Gains, GoesOn, FrameBy}
use Rattle.bt_workers.proofs.Gaining.{gains_none, gains_one, gains_more}

module _ {g : Ghosts PlainBook PlainEvent Answer} where
  abbrev pub ServesFrame : Seat PlainBook PlainEvent Answer g → FrameIn → FrameEnd → Seat PlainBook PlainEvent Answer g → Type 0
  ServesFrame seat frame end after = (calls : List Call) × Gains seat calls after × FrameBy (calls_left seat) frame calls end

  -- the calls after the start, and how they end
  pub serves_on : (seat : Seat PlainBook PlainEvent Answer g) (frame : FrameIn) (picked : Result (Option (ProgramView × ℕ)) StartFault) (at : Seat PlainBook PlainEvent Answer g) (calls : List Call) (end : FrameEnd) (after : Seat PlainBook PlainEvent Answer g)
      → Called seat (Start frame.device) (Started picked) at → Gains at calls after → GoesOn (calls_left at) frame.bytes.items picked calls end → ServesFrame seat frame end after
  serves_on seat frame picked at calls end after called gains goes =
      let call : Call = entry (number seat) (Start frame.device) (Started picked) in
      let left : calls_left at + 1 ≡ calls_left seat = called.one_less in (
        call ∷ calls,
        gains_more seat (call ∷ []) at calls after (gains_one seat (Start frame.device) (Started picked) at called) gains,
        (
          omega (arith, left),
          refl,
          (picked, refl, subst (λ n. GoesOn n frame.bytes.items picked calls end) (let e : calls_left at ≡ calls_left seat - 1 = omega (arith, left) in e) goes),
        ),
      )

  pub serves_spent : (seat : Seat PlainBook PlainEvent Answer g) (frame : FrameIn) (after : Seat PlainBook PlainEvent Answer g) → after ≡ seat → calls_left seat ≡ 0 → ServesFrame seat frame SeatSpent after
  serves_spent seat frame after same none = ([], subst (λ it. Gains seat [] it) (sym same) (gains_none seat), (none, refl))
