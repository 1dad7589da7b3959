-- What is told of a change that is tried.
use Rattle.std.specs.Prelude.{◌≡◌, ◌⊎◌, ℕ, List, [], ◌∷◌, Option, Result, Ok, Err, codes}
use Rattle.std.specs.List.{concat}
use Rattle.std.specs.Io.KnownBytes.{Appends}
use Rattle.journal_model.specs.Book.{PlainBook}
use Rattle.journal_model.specs.Run.{PlainEvent}
use Rattle.bt_without.specs.declared.events.Answer.{Answer as EventAnswer}
use Rattle.thread_lock.specs.declared.sequential.Sequential.{Ghosts}
use Rattle.console_answer.specs.Answers.{mark_fault_of}
use Rattle.console_answer.specs.declared.fault.Fault.TheVariants.{NoMemory}
use Rattle.console_script.specs.declared.summary.Summary.{Summary}
use Rattle.console_script.specs.declared.tally.Tally.{Tally}
use Rattle.thread_trial.specs.Tries.{Begins}
use Rattle.thread_trial.specs.declared.trials.TryFault.{TryFault}
use Rattle.thread_trial.specs.declared.trials.TryFault.TheVariants as fault
use Rattle.thread_live.specs.declared.workers.Heeded.{Heeded}
use Rattle.thread_live.specs.declared.workers.Heeded.TheVariants.{Done, Refused}
use Rattle.thread_live.specs.Footings.{Footing, RefusesBy}
use Rattle.thread_live.specs.Standings.{heeded}

-- what was done, and the name of the mark
abbrev pub named_text : List ℕ → List ℕ → List ℕ
named_text did name = concat (did ∷ name ∷ codes "\n" ∷ [])

-- a text was written, and the line was counted
pub record Says (said : List ℕ) (it : Heeded) (summary : Summary) (text text' : Option (List ℕ)) (tally : Tally) : Type 0 where
  pub wrote : Appends text text' said
  pub counted : tally ≡ heeded summary it

-- what is told of a try that began so
abbrev pub TellsTry : List ℕ → Result (Unit {0}) TryFault → Summary → Option (List ℕ) → Option (List ℕ) → Tally → Type 0
TellsTry name (Ok done) summary text text' tally = Says (named_text (codes "trying ") name) Done summary text text' tally
TellsTry name (Err fault.Pending) summary text text' tally = Says (codes "Error: try pending\n") Refused summary text text' tally
TellsTry name (Err fault.NoClock) summary text text' tally = Says (codes "Error: no clock\n") Refused summary text text' tally
TellsTry name (Err fault.NoMemory) summary text text' tally = RefusesBy text text' NoMemory summary tally
TellsTry name (Err (fault.Mark why)) summary text text' tally = RefusesBy text text' (mark_fault_of why) summary tally

-- the try of this name was confirmed, or there is none
abbrev pub Confirms : List ℕ → Summary → Option (List ℕ) → Option (List ℕ) → Tally → Type 0
Confirms name summary text text' tally =
    Says (named_text (codes "confirmed ") name) Done summary text text' tally ⊎ Says (codes "Error: no try\n") Refused summary text text' tally

module _ {S : Type 0} {g : Ghosts PlainBook PlainEvent EventAnswer} where
  -- a change is tried from the mark that the seat set, or is not; and that was told
  pub record TriesChange (name : List ℕ) (summary : Summary) (from to : Footing S g) (tally : Tally) : Type 0 where
    pub told : Result (Unit {0}) TryFault
    pub session : to.session ≡ from.session
    pub begins : Begins name told from.seat to.seat
    pub tells : TellsTry name told summary from.text to.text tally

  -- a try was confirmed or not, without a call of the seat; and that was told
  pub record ConfirmsTry (name : List ℕ) (summary : Summary) (from to : Footing S g) (tally : Tally) : Type 0 where
    pub session : to.session ≡ from.session
    pub seat : to.seat ≡ from.seat
    pub tells : Confirms name summary from.text to.text tally
