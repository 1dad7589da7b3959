-- A script on a kept book: what it writes, and what is then on the disk.
use Rattle.std.specs.Prelude.{◌≡◌, ℕ, List, Option, Result, Ok, Err, OnOk}
use Rattle.sqlite.specs.State.{State, HasCleanDisk}
use Rattle.sqlite.specs.Files.{file_state}
use Rattle.sqlite.specs.declared.error.Error.{Error}
use Rattle.journal_model.specs.Book.{PlainBook}
use Rattle.bt_syntax.specs.declared.files.FileText.{FileText}
use Rattle.console_script.specs.Transcript.{RanAll}
use Rattle.console_script.specs.declared.summary.Summary.{Summary}
use Rattle.console_script.specs.Made.{AllGetNew}
use Rattle.kept_ledger.specs.TermsView.{PlainTerms}
use Rattle.kept_lines.specs.Kept.{IsOnDisk, Stops, script_on}
use Rattle.kept_lines.specs.declared.fault.LinesFault.{LinesFault}
use Rattle.kept_lines.specs.Begun.{WasReady, HasBook, IsNotRun, IsNotOpened, AddsNow}
use Rattle.kept_lines.specs.declared.databases.Database.{Database}
use Rattle.kept_lines.specs.declared.fault.InFileFault.{InFileFault}
use Rattle.kept_lines.specs.declared.fault.InFileFault.TheVariants.{Unopened, Kept}
use Rattle.kept_lines.specs.declared.fault.KeptFault.{KeptFault}
use Rattle.kept_lines.specs.declared.fault.KeptFault.TheVariants.{Open, Make, Lines}

module _ (terms : PlainTerms) (files : List FileText) (script : List ℕ) (old new : State) (out_old out_new : Option (List ℕ)) where
  -- the lines were run on a book, with a new map for each that they make; it is the book of the database, and the one that they
  -- led to is on the disk
  pub record RanKept (summary : Summary) : Type 0 where
    pub book : PlainBook
    pub left : PlainBook
    pub ran : RanAll out_old out_new book AllGetNew files script left summary
    pub kept : HasCleanDisk new → WasReady old → (t : PlainTerms) (b : PlainBook) → HasBook terms t old b → (book ≡ b) × IsOnDisk t new left

  -- the lines were run on the book of the database up to one whose effect was not kept, or whose answer was not written
  pub record StopsKept (why : LinesFault) : Type 0 where
    pub book : PlainBook
    pub stops : Stops files (script_on book script) (λ t. WasReady old × HasBook terms t old book) new out_old out_new why

  abbrev pub RunsKept : Result Summary KeptFault → Type 0
  RunsKept (Ok summary) = RanKept summary
  RunsKept (Err (Open why)) = IsNotOpened terms old new out_old out_new why
  RunsKept (Err (Make error)) = IsNotRun terms old new out_old out_new
  RunsKept (Err (Lines why)) = StopsKept why

-- so on a connection that was opened
pub record RunsOpened (may_open : Result Database Error → Type 0) (may_be_time : ℕ → Type 0) (terms : PlainTerms) (files : List FileText) (script : List ℕ) (out_old out_new : Option (List ℕ)) (result : Result Summary KeptFault) : Type 0 where
  pub old : Database
  pub new : Database
  pub opened : may_open (Ok old)
  pub ready : WasReady (file_state old.conn)
  pub ran : RunsKept terms files script (file_state old.conn) (file_state new.conn) out_old out_new result
  pub times : OnOk result (AddsNow terms may_be_time (file_state old.conn) (file_state new.conn))

-- or the file was not opened, and no line was run
abbrev pub RunsInFile : (Result Database Error → Type 0) → (ℕ → Type 0) → PlainTerms → List FileText → List ℕ → Option (List ℕ) → Option (List ℕ) → Result Summary InFileFault → Type 0
RunsInFile may_open may_be_time terms files script out_old out_new (Ok summary) = RunsOpened may_open may_be_time terms files script out_old out_new (Ok summary)
RunsInFile may_open may_be_time terms files script out_old out_new (Err (Unopened error)) = may_open (Err error) × (out_new ≡ out_old)
RunsInFile may_open may_be_time terms files script out_old out_new (Err (Kept fault)) = RunsOpened may_open may_be_time terms files script out_old out_new (Err fault)
