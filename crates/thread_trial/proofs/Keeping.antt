-- What the keeper's seat did, one call after another.
use Rattle.std.proofs.Common.{◌≡◌, ℕ, List, Result, Ok, Err, refl, sym, subst, inl, inr}
use Rattle.std.specs.Prelude.{◌↔◌, IfOk, OnErr, IsErr}
use Rattle.bt_mapkind.specs.Seen.{Seen}
use Rattle.journal_model.specs.Book.{PlainBook}
use Rattle.journal_model.specs.Run.{PlainEvent}
use Rattle.bt_without.specs.Events.{IsEvent}
use Rattle.bt_without.specs.declared.events.Answer.{Answer}
use Rattle.bt_without.specs.declared.events.Event.TheVariants as event
use Rattle.thread_lock.specs.declared.sequential.Sequential.{Ghosts}
use Rattle.thread_lock.specs.declared.seat.Seat.{Seat}
use Rattle.thread_lock.specs.Seats.{Called, calls_left}
use Rattle.bt_desk.specs.declared.desk.Desk.{Desk}
use Rattle.thread_trial.specs.Kept.{Undoes, Keeps, undid}

module _ {K E : Type 0} {g : Ghosts PlainBook PlainEvent Answer} (seen : K → Seen) (name : List ℕ) (old new : Seat PlainBook PlainEvent Answer g) where
  -- a call that asks for an undo to a mark, or that a spent seat did not make
  pub undoes_by : (r : Result Answer E) → (IsErr r ↔ (calls_left old ≡ 0)) → OnErr r (new ≡ old)
      → IfOk r (λ answer. (plain : PlainEvent) × IsEvent seen (event.UndoTo name) plain × Called old plain answer new) → Undoes name old new
  undoes_by (Ok answer) spent same (plain, is, called) = inr (answer, subst (λ asked. Called old asked answer new) is called)
  undoes_by (Err fault) spent same called = inl (spent.0 refl, same)

module _ {K : Type 0} {g : Ghosts PlainBook PlainEvent Answer} (desk : Desk K) where
  -- a seat that did nothing
  pub kept_still : (first old new : Seat PlainBook PlainEvent Answer g) → new ≡ old → Keeps desk first old → Keeps desk first new
  kept_still first old new same = subst (λ it. Keeps desk first it) (sym same)

  -- an undo after what was done
  pub kept_undo : (first old new : Seat PlainBook PlainEvent Answer g) (name : List ℕ) → Undoes name old new → Keeps desk first old → Keeps desk first new
  kept_undo first old new name (inl (none, same)) kept = kept_still first old new same kept
  kept_undo first old new name (inr (answer, called)) kept = undid name answer old new kept called
