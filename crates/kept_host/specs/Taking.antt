-- What a range comes to: the lines that take its changes out, all of them or none.
use Rattle.std.specs.Prelude.{◌≡◌, ◌⊎◌, ⊤, ℕ, ◌<◌, List, [], ◌∷◌, ◌++◌, length, map as each, Option, Some, None, codes, decimal}
use Rattle.std.specs.List.{AllByRecursion}
use Rattle.std.specs.Io.KnownBytes.{Appends}
use Rattle.sqlite.specs.State.{State, HasCleanDisk}
use Rattle.journal_model.specs.Book.{PlainBook}
use Rattle.console_answer.specs.declared.answer.Answer.TheVariants as answer
use Rattle.console_answer.specs.declared.fault.Fault.{Fault}
use Rattle.console_answer.specs.declared.fault.Fault.TheVariants.{NoMemory, NotInForce}
use Rattle.console_text.specs.Text.{fault_text}
use Rattle.console_text.specs.Written.{WritesFront}
use Rattle.console_script.specs.Frames.{OpenRuns, console_of}
use Rattle.console_script.specs.Supplied.{need_at}
use Rattle.console_script.specs.Tallies.{mishap_in}
use Rattle.console_script.specs.Transcript.{accepted_one, Session, session_of, Step, step_done, after_steps, transcript, AreRight}
use Rattle.console_script.specs.declared.summary.Summary.{Summary}
use Rattle.kept_ledger.specs.TermsView.{PlainTerms}
use Rattle.kept_ledger.specs.Ledger.{LeavesOnly}
use Rattle.kept_file.specs.Keeps.{HoldsBook}
use Rattle.kept_lines.specs.Kept.{IsOnDisk, IsCut}
use Rattle.kept_lines.specs.declared.fault.LinesFault.TheVariants.{CannotKeep, Write}
use Rattle.kept_host.specs.declared.range.fault.RangeFault.{RangeFault}
use Rattle.kept_host.specs.declared.range.fault.RangeFault.TheVariants.{Lines, Open}
use Rattle.kept_lines.specs.declared.range.SerialRange.{SerialRange}
use Rattle.kept_host.specs.declared.range.taken.Taken.{Taken}
use Rattle.kept_host.specs.declared.range.taken.Taken.TheVariants.{All, NoneInForce, Refused}
use Rattle.kept_lines.specs.Chosen.{chosen}

-- how a range counts: each change that is taken out as an accepted line, and else as a refused one
abbrev pub counts_taken : Taken → Summary
counts_taken (All count) = record { accepted = count; refused = 0 }
counts_taken NoneInForce = record { accepted = 0; refused = 1 }
counts_taken (Refused fault) = record { accepted = 0; refused = 1 }

-- ---- the lines, one for each serial
abbrev pub taking_line : ℕ → List ℕ
taking_line serial = codes "journal without " ++ decimal serial

-- what is around them: the open runs, the counts, and the lines that come after
pub record Around : Type 0 where
  pub runs : OpenRuns
  pub summary : Summary
  pub left : List (List ℕ)

-- before the first of them
abbrev pub script_on : PlainBook → Around → List ℕ → Session
script_on b around serials = session_of (console_of b around.runs) around.summary (each taking_line serials ++ around.left) None

-- and after the last, if all were accepted
abbrev pub with_accepted : List ℕ → Summary → Summary
with_accepted [] summary = summary
with_accepted (serial ∷ serials) summary = with_accepted serials (accepted_one summary)

abbrev pub script_behind : PlainBook → Around → List ℕ → Session
script_behind c around serials = session_of (console_of c around.runs) (with_accepted serials around.summary) around.left None

-- ---- their steps
-- a step that makes no map
abbrev pub MakesNone : Step → Type 0
MakesNone it = (need_at it.line ≡ None) × (it.blank ≡ None)

-- all are accepted, whatever is around: they lead from a book to another, and answer this
pub record AllTaken (serials : List ℕ) (b c : PlainBook) (text : List ℕ) : Type 0 where
  pub run : List Step
  pub boxless : AllByRecursion MakesNone run
  pub right : (around : Around) → AreRight [] (script_on b around serials) run
  pub well : (around : Around) → mishap_in [] (script_on b around serials) run ≡ None
  pub is : (around : Around) → after_steps [] (script_on b around serials) run ≡ script_behind c around serials
  pub answers : (around : Around) → transcript [] (script_on b around serials) run ≡ text

-- one is refused, after others that are accepted, whatever is around
pub record OneRefused (serials : List ℕ) (b : PlainBook) (fault : Fault) : Type 0 where
  pub run : List Step
  pub last : Step
  pub boxless : AllByRecursion MakesNone (run ++ last ∷ [])
  pub right : (around : Around) → AreRight [] (script_on b around serials) (run ++ last ∷ [])
  pub well : (around : Around) → mishap_in [] (script_on b around serials) run ≡ None
  pub refused : (around : Around) → (step_done [] (after_steps [] (script_on b around serials) run) last).1 ≡ Some (answer.Refused fault)

-- why none is taken out: memory lacks, or the first refusal
abbrev pub IsWhy : List ℕ → PlainBook → Fault → Type 0
IsWhy serials b fault = (fault ≡ NoMemory) ⊎ OneRefused serials b fault

-- or that none of them is in force
abbrev pub IsNone : SerialRange → PlainBook → Fault → Type 0
IsNone range b fault = ((chosen range b ≡ []) × (fault ≡ NotInForce)) ⊎ IsWhy (chosen range b) b fault

-- ---- what a range comes to
-- all are taken out, and what each of their lines answers is written; or none, and one line says why
abbrev pub ComesTo : SerialRange → PlainBook → PlainBook → Option (List ℕ) → Option (List ℕ) → Taken → Type 0
ComesTo range b c old new (All count) = (0 < count) × (count ≡ length (chosen range b)) × ((text : List ℕ) × AllTaken (chosen range b) b c text × Appends old new text)
ComesTo range b c old new NoneInForce = (chosen range b ≡ []) × Appends old new (fault_text NotInForce)
ComesTo range b c old new (Refused fault) = IsWhy (chosen range b) b fault × Appends old new (fault_text fault)

-- so it is unless all are taken out
abbrev pub UnlessAll : Taken → Type 0 → Type 0
UnlessAll (All count) P = ⊤
UnlessAll NoneInForce P = P
UnlessAll (Refused fault) P = P

-- so it is if all are
abbrev pub IfAll : Taken → Type 0 → Type 0
IfAll (All count) P = P
IfAll NoneInForce P = ⊤
IfAll (Refused fault) P = ⊤

-- what a crash leaves: the book as it was, or the one without all of them
abbrev pub AllOrNone : SerialRange → PlainBook → PlainBook → Type 0
AllOrNone range b left = (left ≡ b) ⊎ ((text : List ℕ) × AllTaken (chosen range b) b left text)

-- ---- a range that is not answered, by what says that its book with some terms was that of the database
module _ (range : SerialRange) (b : PlainBook) (Began : PlainTerms → Type 0) (new : State) (out_old out_new : Option (List ℕ)) where
  -- all are taken out, and that is not kept: nothing was written
  pub record IsUnkeptTaking : Type 0 where
    pub left : PlainBook
    pub text : List ℕ
    pub taken : AllTaken (chosen range b) b left text
    pub unwritten : out_new ≡ out_old
    pub disk : HasCleanDisk new → (t : PlainTerms) → Began t → IsCut t new b left

  -- that is kept, and of their answers a front was written
  pub record IsUnwrittenTaking : Type 0 where
    pub left : PlainBook
    pub text : List ℕ
    pub taken : AllTaken (chosen range b) b left text
    pub front : WritesFront out_old out_new text
    pub disk : HasCleanDisk new → (t : PlainTerms) → Began t → IsOnDisk t new left

  -- none is taken out, and of the line that says why a front was written
  pub record IsUnwrittenRefusal : Type 0 where
    pub fault : Fault
    pub why : IsNone range b fault
    pub front : WritesFront out_old out_new (fault_text fault)
    pub disk : HasCleanDisk new → (t : PlainTerms) → Began t → IsOnDisk t new b

  abbrev pub Stops : RangeFault → Type 0
  Stops (Lines (CannotKeep why)) = IsUnkeptTaking
  Stops (Lines Write) = IsUnwrittenTaking ⊎ IsUnwrittenRefusal
  Stops (Open why) = (out_new ≡ out_old) × (HasCleanDisk new → (t : PlainTerms) → Began t → LeavesOnly (HoldsBook t b) new)
