-- One turn of a worker after another.
use Rattle.std.proofs.Common.{◌≡◌, ℕ, ◌<◌, List, [], ◌∷◌, ◌++◌, length, Option, Some, None, sym, subst}
use Rattle.std.proofs.lemmas.List.{map-append}
use Rattle.std.specs.Prelude.{IfSome, IfNone, unwrap_or}
use Rattle.journal_model.specs.Book.{PlainBook}
use Rattle.journal_model.specs.Run.{PlainEvent}
use Rattle.bt_without.specs.declared.events.Answer.{Answer}
use Rattle.thread_lock.specs.declared.sequential.Sequential.{Ghosts}
use Rattle.thread_lock.specs.declared.seat.Seat.{Seat}
use Rattle.thread_frames.specs.declared.frame.FrameIn.{FrameIn}
use Rattle.bt_workers.specs.declared.result.FrameEnd.{FrameEnd}
use Rattle.bt_workers.specs.Worked.{ServesFrames, number_of, numbers_of}
use Rattle.thread_rounds.specs.declared.place.Place.{Place}
use Rattle.thread_rounds.specs.declared.share.Share.{Share}
use Rattle.thread_rounds.specs.Dealt.{AreDealt, none, served, left_out, start, after}
use Rattle.thread_rounds.specs.Rounds.{ending, ServesRounds}
use Rattle.thread_rounds.proofs.Adding.{serves_none, serves_more}

-- a pass below the limit of a worker is one that it has to do
pub to_do : (passes : Option ℕ) (limit most pass : ℕ) → most ≡ unwrap_or passes limit → pass < most → IfSome passes (λ n. pass < n)
to_do None limit most pass is below = tt
to_do (Some n) limit most pass is below = subst (λ m. pass < m) is below

module _ {g : Ghosts PlainBook PlainEvent Answer} (share : Share) (all : List FrameIn) (passes : Option ℕ) where
  pub no_turn : (seat : Seat PlainBook PlainEvent Answer g) → ServesRounds share all passes seat (start share) seat
  no_turn seat = record { ends = []; serves = serves_none all seat; dealt = none }

  -- the frame that is the next was served, or was left out
  one_turn : (seat : Seat PlainBook PlainEvent Answer g) (at : Place) (b : Seat PlainBook PlainEvent Answer g) (end : Option FrameEnd) (c : Seat PlainBook PlainEvent Answer g) → IfSome passes (λ n. at.pass < n) → ServesRounds share all passes seat at b
      → IfSome end (λ end. ServesFrames all b (ending at.number end ∷ []) c) → IfNone end (c ≡ b) → ServesRounds share all passes seat (after share (length all) at) c
  one_turn seat at b (Some end) c asked h serves same = record {
    ends = h.ends ++ ending at.number end ∷ [];
    serves = serves_more all seat h.ends b (ending at.number end ∷ []) c h.serves serves;
    dealt = subst (λ numbers. AreDealt share (length all) passes (after share (length all) at) numbers) (sym (map-append number_of h.ends (ending at.number end ∷ [])))
        (served at (numbers_of h.ends) asked h.dealt);
  }
  one_turn seat at b None c asked h serves same = record {
    ends = h.ends;
    serves = subst (λ it. ServesFrames all seat h.ends it) (sym same) h.serves;
    dealt = left_out at (numbers_of h.ends) asked h.dealt;
  }

  -- the worker is then past that frame
  pub turn_to : (seat : Seat PlainBook PlainEvent Answer g) (at : Place) (b : Seat PlainBook PlainEvent Answer g) (end : Option FrameEnd) (next : Place) (c : Seat PlainBook PlainEvent Answer g)
      → next ≡ after share (length all) at → IfSome passes (λ n. at.pass < n) → ServesRounds share all passes seat at b
      → IfSome end (λ end. ServesFrames all b (ending at.number end ∷ []) c) → IfNone end (c ≡ b) → ServesRounds share all passes seat next c
  turn_to seat at b end next c is asked h serves same =
      subst (λ place. ServesRounds share all passes seat place c) (sym is) (one_turn seat at b end c asked h serves same)
