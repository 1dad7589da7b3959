-- Looks into the journal of a kept book: what is told, and what is then on the disk.
use Rattle.std.specs.Prelude.{◌≡◌, ℕ, List, Option, Result, Ok, Err}
use Rattle.std.specs.declared.alloc.AllocError.{AllocError}
use Rattle.sqlite.specs.State.{State, HasCleanDisk}
use Rattle.sqlite.specs.Files.{file_state}
use Rattle.sqlite.specs.declared.error.Error.{Error}
use Rattle.journal_model.specs.Book.{PlainBook}
use Rattle.console_looks.specs.Answered.{ShowsLooked, ShowsFront}
use Rattle.console_looks.specs.declared.look.Look.{Look}
use Rattle.console_looks.specs.declared.look.Look.TheVariants.{Show, DryUndo}
use Rattle.console_looks.specs.declared.shown.Showing.{Showing}
use Rattle.console_looks.specs.declared.shown.Showing.TheVariants.{Found}
use Rattle.console_script.specs.Transcript.{no_counts}
use Rattle.console_script.specs.declared.summary.Summary.{Summary}
use Rattle.kept_ledger.specs.TermsView.{PlainTerms}
use Rattle.kept_lines.specs.Kept.{IsOnDisk}
use Rattle.kept_lines.specs.declared.fault.LinesFault.TheVariants.{Write}
use Rattle.kept_lines.specs.Begun.{WasReady, HasBook, IsNotRun, IsNotOpened}
use Rattle.kept_lines.specs.declared.databases.Database.{Database}
use Rattle.kept_lines.specs.declared.fault.InFileFault.{InFileFault}
use Rattle.kept_lines.specs.declared.fault.InFileFault.TheVariants.{Unopened, Kept}
use Rattle.kept_lines.specs.declared.fault.KeptFault.{KeptFault}
use Rattle.kept_lines.specs.declared.fault.KeptFault.TheVariants.{Open, Make, Lines}

-- ---- on a book
-- how a line that asked for a serial counts
abbrev pub counts_of : Result Showing AllocError → Summary
counts_of (Ok (Found it)) = record { accepted = 1; refused = 0 }
counts_of _ = record { accepted = 0; refused = 1 }

-- what there is to show of a serial was written, and the line was counted
pub record ShowsCounted (serial : ℕ) (b : PlainBook) (out_old out_new : Option (List ℕ)) (summary : Summary) : Type 0 where
  pub looked : Result Showing AllocError
  pub shows : ShowsLooked serial b out_old out_new looked
  pub counts : summary ≡ counts_of looked

-- what a look writes and counts; an undo that is only looked at writes and counts nothing
abbrev pub LooksAt : Look → PlainBook → Option (List ℕ) → Option (List ℕ) → Summary → Type 0
LooksAt (Show serial) b out_old out_new summary = ShowsCounted serial b out_old out_new summary
LooksAt (DryUndo mark) b out_old out_new summary = (out_new ≡ out_old) × (summary ≡ no_counts)

-- of what a look writes a front was written, or all
abbrev pub LooksFront : Look → PlainBook → Option (List ℕ) → Option (List ℕ) → Type 0
LooksFront (Show serial) b out_old out_new = ShowsFront serial b out_old out_new
LooksFront (DryUndo mark) b out_old out_new = ⊥

-- ---- on the book of a database
module _ (terms : PlainTerms) (look : Look) (old new : State) (out_old out_new : Option (List ℕ)) where
  -- this book is that of the database, and on the disk
  abbrev pub StaysKept : PlainBook → Type 0
  StaysKept book = HasCleanDisk new → WasReady old → (t : PlainTerms) (b : PlainBook) → HasBook terms t old b → (book ≡ b) × IsOnDisk t new book

  pub record LookedKept (summary : Summary) : Type 0 where
    pub book : PlainBook
    pub looked : LooksAt look book out_old out_new summary
    pub kept : StaysKept book

  -- not all of it was written
  pub record LookStops : Type 0 where
    pub book : PlainBook
    pub front : LooksFront look book out_old out_new
    pub kept : StaysKept book

  abbrev pub LooksKept : Result Summary KeptFault → Type 0
  LooksKept (Ok summary) = LookedKept summary
  LooksKept (Err (Open why)) = IsNotOpened terms old new out_old out_new why
  LooksKept (Err (Make error)) = IsNotRun terms old new out_old out_new
  LooksKept (Err (Lines why)) = (why ≡ Write) × LookStops

-- ---- on the book of a file
-- on a connection that was opened
pub record LooksOpened (may_open : Result Database Error → Type 0) (terms : PlainTerms) (look : Look) (out_old out_new : Option (List ℕ)) (result : Result Summary KeptFault) : Type 0 where
  pub old : Database
  pub new : Database
  pub opened : may_open (Ok old)
  pub ready : WasReady (file_state old.conn)
  pub looked : LooksKept terms look (file_state old.conn) (file_state new.conn) out_old out_new result

-- or the file was not opened, and nothing was looked at
abbrev pub LooksInFile : (Result Database Error → Type 0) → PlainTerms → Look → Option (List ℕ) → Option (List ℕ) → Result Summary InFileFault → Type 0
LooksInFile may_open terms look out_old out_new (Ok summary) = LooksOpened may_open terms look out_old out_new (Ok summary)
LooksInFile may_open terms look out_old out_new (Err (Unopened error)) = may_open (Err error) × (out_new ≡ out_old)
LooksInFile may_open terms look out_old out_new (Err (Kept fault)) = LooksOpened may_open terms look out_old out_new (Err fault)
