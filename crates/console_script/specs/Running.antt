-- Steps that lead from one session to another, with what they were supplied and what they wrote.
use Rattle.std.specs.Prelude.{◌≡◌, ◌<◌, ℕ, List, [], ◌∷◌, ◌++◌, length, Option, None, Result, Ok, Err}
use Rattle.std.specs.Io.KnownBytes.{Appends}
use Rattle.bt_mapkind.specs.declared.attr.MapAttr.{MapAttr}
use Rattle.bt_mapkind.specs.Seen.{Seen}
use Rattle.journal_model.specs.Book.{PlainBook}
use Rattle.bt_syntax.specs.declared.files.FileText.{FileText}
use Rattle.console_answer.specs.declared.answer.Answer.{Answer}
use Rattle.console_answer.specs.declared.mishap.Mishap.{Mishap}
use Rattle.console_script.specs.declared.tally.Tally.{Tally}
use Rattle.console_script.specs.NoBox.{NoBox}
use Rattle.console_script.specs.Frames.{Console}
use Rattle.console_script.specs.Tallies.{mishap_in}
use Rattle.console_script.specs.Supplied.{StepIsSupplied, AreSupplied}
use Rattle.console_script.specs.Transcript.{Session, session_of, Step, step_done, after_steps, transcript, IsRightStep, AreRight}

-- a step
pub record StepRuns {S K : Type 0} (gives : S → MapAttr → Result K NoBox → S → Type 0) (seen : K → Seen) (files : List FileText) (from : S) (s : Session) (done : Session × Option Answer) (to : S) : Type 0 where
  pub it : Step
  pub box : StepIsSupplied gives seen from it to
  pub right : IsRightStep files s it
  pub is : done ≡ step_done files s it

-- some steps, whose texts were written, and what went wrong in them last
pub record LeadsOn {S K : Type 0} (gives : S → MapAttr → Result K NoBox → S → Type 0) (seen : K → Seen) (files : List FileText) (from : S) (s : Session) (old : Option (List ℕ)) (to : S) (end : Session) (new : Option (List ℕ)) (mishap : Option Mishap) : Type 0 where
  pub run : List Step
  pub boxes : AreSupplied gives seen from run to
  pub right : AreRight files s run
  pub wrote : Appends old new (transcript files s run)
  pub is : end ≡ after_steps files s run
  pub wrong : mishap ≡ mishap_in files s run

-- some steps, if the text of the last one was not written to its end
pub record StopsAt {S K : Type 0} (gives : S → MapAttr → Result K NoBox → S → Type 0) (seen : K → Seen) (files : List FileText) (from : S) (s : Session) (old : Option (List ℕ)) (to : S) (left : PlainBook) (new : Option (List ℕ)) : Type 0 where
  pub run : List Step
  pub last : Step
  pub boxes : AreSupplied gives seen from (run ++ last ∷ []) to
  pub right : AreRight files s (run ++ last ∷ [])
  pub front : List ℕ
  pub unwritten : List ℕ
  pub cut : transcript files s (run ++ last ∷ []) ≡ transcript files s run ++ (front ++ unwritten)
  pub some_left : 0 < length unwritten
  pub wrote : Appends old new (transcript files s run ++ front)
  pub book : left ≡ (after_steps files s (run ++ last ∷ [])).console.book

-- steps up to where these lines of the script are left and no batch is open, or up to a write that failed
abbrev pub LeadsTo : {S K E : Type 0} → (S → MapAttr → Result K NoBox → S → Type 0) → (K → Seen) → List FileText → S → Session → Option (List ℕ) → S → Console → List (List ℕ) → Option (List ℕ) → Result Tally E → Type 0
LeadsTo gives seen files from s old to c left new (Ok tally) = LeadsOn gives seen files from s old to (session_of c tally.summary left None) new tally.mishap
LeadsTo gives seen files from s old to c left new (Err fault) = StopsAt gives seen files from s old to c.book new
