-- What a frame of the console asks, step for step.
use Rattle.std.specs.Prelude.{◌≡◌, ℕ, Bool, List, [], ◌∷◌, ◌++◌, Some, None, Ok}
use Rattle.program_access.specs.declared.access.Access.{Access}
use Rattle.program_step.specs.Flow.{Stop}
use Rattle.program_step.specs.declared.outcome.Outcome.TheVariants as outcome
use Rattle.bt_interp.specs.Known.{IsHad}
use Rattle.bt_interp.specs.Runs.{State, advanced}
use Rattle.journal_model.specs.declared.limits.Limits.{Limits}
use Rattle.journal_model.specs.Book.{PlainBook, opened}
use Rattle.journal_model.specs.Run.{Given, event_of, book_after}
use Rattle.journal_model.specs.Well.{Each}
use Rattle.bt_syntax.specs.declared.frame.Frame.{Frame}
use Rattle.bt_console.specs.Frames.{run_on, stepped}
use Rattle.journal_known_maps.specs.Known.{KnowsItsMaps}
use Rattle.thread_frame_laws.specs.LetIn.{LoadsLetIn}

-- Steps of a run that did not end it, each with whether an allocation failed in it, come from one book and state to another.
abbrev pub StepsTo : List Bool → PlainBook → State → PlainBook → State → Type 0
StepsTo [] b s c t = (c ≡ b) × (t ≡ s)
StepsTo (refused ∷ wants) b s c t = ((stepped refused b s).2 ≡ None) × StepsTo wants (stepped refused b s).0 (stepped refused b s).1 c t

-- the maps of the books up to there, and what the run asks of them next, if it does not end
pub record AsksNext (b : PlainBook) (script : List Given) (c : PlainBook) (t : State) : Type 0 where
  -- the events of the frame so far
  pub frame : List Given
  pub book : c ≡ book_after b (script ++ frame)
  pub known : KnowsItsMaps b (script ++ frame)
  pub had : (access : Access) (at : State) → advanced t ≡ (Stop (outcome.Access access), at) → IsHad known.maps access

-- a new book, any events such as those of a script, and a frame that so many steps were taken of
abbrev pub StepsAskHad : List (List ℕ) → Limits → PlainBook → List Given → Frame → State → List Bool → PlainBook → State → Type 0
StepsAskHad devices limits b script frame s wants c t =
    opened devices limits ≡ Ok b → Each (λ (given : Given). LoadsLetIn b script (event_of given)) script → run_on (book_after b script) frame ≡ Ok (Some s)
    → StepsTo wants (book_after b script) s c t → AsksNext b script c t
