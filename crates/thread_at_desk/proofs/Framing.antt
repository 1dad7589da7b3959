-- A run that is taken on at a desk, one turn a step; and steps of runs as single events.
use Rattle.std.proofs.Common.{◌≡◌, ◌∙◌, Bool, false, List, [], ◌∷◌, ◌++◌, Option, Some, None, refl, ap, subst}
use Rattle.bt_interp.specs.Runs.{State}
use Rattle.journal_model.specs.Book.{PlainBook}
use Rattle.journal_model.specs.Run.{PlainEvent, ListAll}
use Rattle.bt_without.specs.declared.events.Answer.{Answer as EventAnswer}
use Rattle.thread_lock.specs.declared.sequential.Sequential.{Ghosts}
use Rattle.thread_lock.specs.declared.seat.Seat.{Seat}
use Rattle.bt_desk.specs.declared.desk.Desk.{Desk}
use Rattle.bt_desk.specs.Events.{IsOneEvent}
use Rattle.bt_desk.proofs.Visiting.{is_one_event}
use Rattle.bt_interp.specs.declared.end.End.{End}
use Rattle.console_script.specs.Frames.{stepped}
use Rattle.console_script.proofs.Evented.{one_step_of}
use Rattle.thread_at_desk.specs.Framed.{SteppedAt, StepsOn, RunsAt}

-- a book that stays as it is was asked
pub asked : (before after : PlainBook) → after ≡ before → IsOneEvent before after
asked before after same = is_one_event before after (false, ListAll) same

-- a step of a run is one event
pub one_step : (refused : Bool) (before after : PlainBook) (run left : State) (end : Option End) → (after, left, end) ≡ stepped refused before run → IsOneEvent before after
one_step refused before after run left end does =
    let one = one_step_of before refused run in
    is_one_event before after one.given (ap (λ (it : PlainBook × State × Option End). it.0) does ∙ one.book)

module _ {K : Type 0} {g : Ghosts PlainBook PlainEvent EventAnswer} (desk : Desk K) where
  -- the steps so far
  pub record CameOn (run : State) (old : Seat PlainBook PlainEvent EventAnswer g) (left : State) (new : Seat PlainBook PlainEvent EventAnswer g) : Type 0 where
    pub way : List (State × Seat PlainBook PlainEvent EventAnswer g)
    pub steps : StepsOn desk run old way left new

  pub came_nowhere : (run : State) (old : Seat PlainBook PlainEvent EventAnswer g) → CameOn run old run old
  came_nowhere run old = record { way = []; steps = (refl, refl) }

  step_more : (way : List (State × Seat PlainBook PlainEvent EventAnswer g)) (run here onward : State) (old mid new : Seat PlainBook PlainEvent EventAnswer g) → StepsOn desk run old way here mid → SteppedAt desk here None onward mid new
      → StepsOn desk run old (way ++ (onward, new) ∷ []) onward new
  step_more [] run here onward old mid new (is, at) step =
      (subst (λ (it : State). SteppedAt desk it None onward old new) is (subst (λ (it : Seat PlainBook PlainEvent EventAnswer g). SteppedAt desk here None onward it new) at step), (refl, refl))
  step_more ((first, next) ∷ way) run here onward old mid new (begins, goes) step = (begins, step_more way first here onward next mid new goes step)

  pub came_on : (run here onward : State) (old mid new : Seat PlainBook PlainEvent EventAnswer g) → CameOn run old here mid → SteppedAt desk here None onward mid new → CameOn run old onward new
  came_on run here onward old mid new it step = record { way = it.way ++ (onward, new) ∷ []; steps = step_more it.way run here onward old mid new it.steps step }

  pub came_to_end : (run here left : State) (old mid new : Seat PlainBook PlainEvent EventAnswer g) (end : End) → CameOn run old here mid → SteppedAt desk here (Some end) left mid new → RunsAt desk run old end new
  came_to_end run here left old mid new end it ends = record { way = it.way; last = here; mid = mid; left = left; steps = it.steps; ends = ends }
