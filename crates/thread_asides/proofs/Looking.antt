-- What a visit saw, if there was memory to look.
use Rattle.std.proofs.Common.{◌≡◌, ℕ, List, Option, Result, Ok, Err}
use Rattle.std.specs.Prelude.{IfOk}
use Rattle.std.specs.Io.KnownBytes.{Appends}
use Rattle.std.specs.declared.alloc.AllocError.{AllocError}
use Rattle.journal_model.specs.Book.{PlainBook}
use Rattle.journal_model.specs.Run.{PlainEvent}
use Rattle.bt_without.specs.declared.events.Answer.{Answer as EventAnswer}
use Rattle.thread_lock.specs.declared.sequential.Sequential.{Ghosts}
use Rattle.thread_lock.specs.declared.seat.Seat.{Seat}
use Rattle.bt_desk.specs.declared.desk.Desk.{Desk}
use Rattle.bt_desk.specs.Visits.{VisitedAt}
use Rattle.console_looks.specs.Shown.{shown_in}
use Rattle.console_looks.specs.Answered.{looked_text}
use Rattle.console_looks.specs.declared.shown.Showing.{Showing}
use Rattle.thread_asides.specs.Looked.{ShownAt, SeenAt, ShowsAt}

module _ {K E : Type 0} {g : Ghosts PlainBook PlainEvent EventAnswer} (desk : Desk K) (serial : ℕ) (old new : Seat PlainBook PlainEvent EventAnswer g) where
  pub if_shown : (looked : Result Showing E) → VisitedAt desk (λ before after. (after ≡ before) × IfOk looked (λ it. it ≡ shown_in serial before)) old new → IfOk looked (λ it. ShownAt desk serial it old new)
  if_shown (Ok it) visit = visit
  if_shown (Err fault) visit = tt

module _ {K T E : Type 0} {g : Ghosts PlainBook PlainEvent EventAnswer} (desk : Desk K) (sees : PlainBook → T → Type 0) (old new : Seat PlainBook PlainEvent EventAnswer g) where
  pub if_seen : (looked : Result T E) → VisitedAt desk (λ before after. (after ≡ before) × IfOk looked (sees before)) old new → IfOk looked (λ it. SeenAt desk sees it old new)
  if_seen (Ok it) visit = visit
  if_seen (Err fault) visit = tt

module _ {K : Type 0} {g : Ghosts PlainBook PlainEvent EventAnswer} (desk : Desk K) (serial : ℕ) (old new : Seat PlainBook PlainEvent EventAnswer g) where
  -- what was looked at was written
  pub shows_at : (text_old text_new : Option (List ℕ)) (looked : Result Showing AllocError) → IfOk looked (λ it. ShownAt desk serial it old new) → Appends text_old text_new (looked_text looked) → ShowsAt desk serial old new text_old text_new
  shows_at text_old text_new looked is written = record { looked = looked; is = is; written = written }
