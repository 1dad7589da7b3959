-- A frame at a desk: its start, and each access of its program's run, in one call each.
use Rattle.std.specs.Prelude.{◌≡◌, Bool, List, [], ◌∷◌, Option, Some, None, Result, Ok, Err}
use Rattle.bt_interp.specs.Runs.{State}
use Rattle.journal_model.specs.Book.{PlainBook}
use Rattle.journal_model.specs.Run.{PlainEvent}
use Rattle.bt_without.specs.declared.events.Answer.{Answer as EventAnswer}
use Rattle.thread_lock.specs.declared.sequential.Sequential.{Ghosts}
use Rattle.thread_lock.specs.declared.seat.Seat.{Seat}
use Rattle.bt_desk.specs.declared.desk.Desk.{Desk}
use Rattle.bt_desk.specs.Visits.{VisitedAt}
use Rattle.bt_syntax.specs.declared.frame.Frame.{Frame}
use Rattle.console_answer.specs.declared.answer.Answer.{Answer}
use Rattle.console_answer.specs.declared.answer.Answer.TheVariants.{Ended, Refused}
use Rattle.console_answer.specs.declared.fault.Fault.{Fault}
use Rattle.bt_interp.specs.declared.end.End.{End}
use Rattle.bt_interp.specs.declared.end.End.TheVariants.{NoProgram}
use Rattle.console_reference.specs.References.{ToldUnlessRefused}
use Rattle.console_script.specs.Frames.{run_on, stepped}

module _ {K : Type 0} {g : Ghosts PlainBook PlainEvent EventAnswer} (desk : Desk K) where
  -- a frame began so on the book as it was in one call
  abbrev pub BegunAt : Frame → Result (Option State) Fault → Seat PlainBook PlainEvent EventAnswer g → Seat PlainBook PlainEvent EventAnswer g → Type 0
  BegunAt frame begun old new = VisitedAt desk (λ before after. (after ≡ before) × ToldUnlessRefused (run_on before frame) begun) old new

  -- a run went on by one access, on the book as it was in one call
  abbrev pub SteppedAt : State → Option End → State → Seat PlainBook PlainEvent EventAnswer g → Seat PlainBook PlainEvent EventAnswer g → Type 0
  SteppedAt run end left old new = VisitedAt desk (λ before after. (refused : Bool) × ((after, left, end) ≡ stepped refused before run)) old new

  -- a run made accesses that did not end it, one call each; after each stands the run with the seat
  abbrev pub StepsOn : State → Seat PlainBook PlainEvent EventAnswer g → List (State × Seat PlainBook PlainEvent EventAnswer g) → State → Seat PlainBook PlainEvent EventAnswer g → Type 0
  StepsOn run old [] left new = (left ≡ run) × (new ≡ old)
  StepsOn run old ((onward, mid) ∷ more) left new = SteppedAt run None onward old mid × StepsOn onward mid more left new

  -- a run was taken to its end
  pub record RunsAt (run : State) (old : Seat PlainBook PlainEvent EventAnswer g) (end : End) (new : Seat PlainBook PlainEvent EventAnswer g) : Type 0 where
    pub way : List (State × Seat PlainBook PlainEvent EventAnswer g)
    pub last : State
    pub mid : Seat PlainBook PlainEvent EventAnswer g
    pub left : State
    pub steps : StepsOn run old way last mid
    pub ends : SteppedAt last (Some end) left mid new

  -- what comes of a frame that began so
  abbrev pub GoesOn : Result (Option State) Fault → Answer → Seat PlainBook PlainEvent EventAnswer g → Seat PlainBook PlainEvent EventAnswer g → Type 0
  GoesOn (Err why) answer old new = (answer ≡ Refused why) × (new ≡ old)
  GoesOn (Ok None) answer old new = (answer ≡ Ended NoProgram) × (new ≡ old)
  GoesOn (Ok (Some run)) answer old new = (end : End) × (answer ≡ Ended end) × RunsAt run old end new

  -- a frame was run to its end, and answered so
  pub record FrameAt (frame : Frame) (answer : Answer) (old new : Seat PlainBook PlainEvent EventAnswer g) : Type 0 where
    pub begun : Result (Option State) Fault
    pub mid : Seat PlainBook PlainEvent EventAnswer g
    pub begins : BegunAt frame begun old mid
    pub goes : GoesOn begun answer mid new
