-- A range of changes taken out of the book of a database: what is written, and what is then on the disk.
use Rattle.std.specs.Prelude.{◌≡◌, ◌⊎◌, ℕ, List, Option, Result, Ok, Err, IfOk}
use Rattle.sqlite.specs.State.{State, HasCleanDisk}
use Rattle.sqlite.specs.Files.{file_state}
use Rattle.sqlite.specs.declared.error.Error.{Error}
use Rattle.journal_model.specs.Book.{PlainBook}
use Rattle.kept_ledger.specs.TermsView.{PlainTerms}
use Rattle.kept_ledger.specs.Ledger.{LeavesOnly}
use Rattle.kept_file.specs.Keeps.{HoldsOne}
use Rattle.kept_lines.specs.Kept.{IsOnDisk}
use Rattle.kept_host.specs.Taking.{AllOrNone, ComesTo, IfAll, UnlessAll, Stops}
use Rattle.kept_host.specs.declared.range.fault.RangeFault.{RangeFault}
use Rattle.kept_host.specs.declared.range.fault.RangeFault.TheVariants as taking
use Rattle.kept_lines.specs.declared.range.SerialRange.{SerialRange}
use Rattle.kept_host.specs.declared.range.taken.Taken.{Taken}
use Rattle.kept_lines.specs.Begun.{WasReady, HasBook, IsNotRun, IsNotOpened, AddsNow}
use Rattle.kept_lines.specs.declared.databases.Database.{Database}
use Rattle.kept_lines.specs.declared.fault.InFileFault.{InFileFault}
use Rattle.kept_lines.specs.declared.fault.InFileFault.TheVariants.{Unopened, Kept}
use Rattle.kept_lines.specs.declared.fault.KeptFault.{KeptFault}
use Rattle.kept_lines.specs.declared.fault.KeptFault.TheVariants.{Open, Make, Lines}

-- ---- on the book of a database
module _ (terms : PlainTerms) (range : SerialRange) (old new : State) (out_old out_new : Option (List ℕ)) where
  -- this book is that of the database
  abbrev pub IsOfDatabase : PlainBook → Type 0
  IsOfDatabase book = HasCleanDisk new → WasReady old → (t : PlainTerms) (b : PlainBook) → HasBook terms t old b → book ≡ b

  -- this one is on its disk
  abbrev pub HasOnDisk : State → PlainBook → Type 0
  HasOnDisk s left = HasCleanDisk new → WasReady old → (t : PlainTerms) (b : PlainBook) → HasBook terms t old b → IsOnDisk t s left

  -- a crash leaves the book before, or the one without all changes of the range
  abbrev pub LeavesAllOrNone : PlainBook → Type 0
  LeavesAllOrNone book = HasCleanDisk new → WasReady old → (t : PlainTerms) (b : PlainBook) → HasBook terms t old b → LeavesOnly (HoldsOne t (AllOrNone range book)) new

  -- all were taken out, or none; what that came to is on the disk
  pub record TookKept (taken : Taken) : Type 0 where
    pub book : PlainBook
    pub begins : IsOfDatabase book
    pub left : PlainBook
    pub comes : ComesTo range book left out_old out_new taken
    pub kept : HasOnDisk new left
    pub same : HasCleanDisk new → WasReady old → (t : PlainTerms) (b : PlainBook) → HasBook terms t old b → UnlessAll taken (left ≡ book)
    pub leaves : LeavesAllOrNone book

  -- the range was not answered
  pub record TakingStops (fault : RangeFault) : Type 0 where
    pub book : PlainBook
    pub begins : IsOfDatabase book
    pub stops : Stops range book (λ t. WasReady old × HasBook terms t old book) new out_old out_new fault
    pub leaves : LeavesAllOrNone book

  abbrev pub TakesKept : Result Taken KeptFault → Type 0
  TakesKept (Ok taken) = TookKept taken
  TakesKept (Err (Open why)) = IsNotOpened terms old new out_old out_new why ⊎ TakingStops (taking.Open why)
  TakesKept (Err (Make error)) = IsNotRun terms old new out_old out_new
  TakesKept (Err (Lines why)) = TakingStops (taking.Lines why)

-- ---- on the book of a file
-- on a connection that was opened
pub record TakesOpened (may_open : Result Database Error → Type 0) (may_be_time : ℕ → Type 0) (terms : PlainTerms) (range : SerialRange) (out_old out_new : Option (List ℕ)) (result : Result Taken KeptFault) : Type 0 where
  pub old : Database
  pub new : Database
  pub opened : may_open (Ok old)
  pub ready : WasReady (file_state old.conn)
  pub took : TakesKept terms range (file_state old.conn) (file_state new.conn) out_old out_new result
  pub times : IfOk result (λ taken. IfAll taken (AddsNow terms may_be_time (file_state old.conn) (file_state new.conn)))

-- or the file was not opened, and nothing was written
abbrev pub TakesInFile : (Result Database Error → Type 0) → (ℕ → Type 0) → PlainTerms → SerialRange → Option (List ℕ) → Option (List ℕ) → Result Taken InFileFault → Type 0
TakesInFile may_open may_be_time terms range out_old out_new (Ok taken) = TakesOpened may_open may_be_time terms range out_old out_new (Ok taken)
TakesInFile may_open may_be_time terms range out_old out_new (Err (Unopened error)) = may_open (Err error) × (out_new ≡ out_old)
TakesInFile may_open may_be_time terms range out_old out_new (Err (Kept fault)) = TakesOpened may_open may_be_time terms range out_old out_new (Err fault)
