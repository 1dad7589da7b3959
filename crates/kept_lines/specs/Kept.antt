-- What of a script is kept and written.
use Rattle.std.specs.Prelude.{◌≡◌, ◌⊎◌, ℕ, IsTrue, List, [], ◌++◌, Option}
use Rattle.std.specs.Io.KnownBytes.{Appends}
use Rattle.sqlite_trees.specs.declared.store.Store.{Ghosts}
use Rattle.sqlite.specs.State.{State, HasCleanDisk}
use Rattle.sqlite.specs.Held.{Held}
use Rattle.journal_model.specs.Book.{PlainBook}
use Rattle.console_operand.specs.Line.{lines_of}
use Rattle.bt_syntax.specs.declared.files.FileText.{FileText}
use Rattle.console_text.specs.Written.{WritesFront}
use Rattle.console_script.specs.Transcript.{Session, Step, begun, after_steps, transcript, AreRight}
use Rattle.kept_event.specs.declared.event.KeptEvent.{KeptEvent}
use Rattle.kept_book.specs.Leading.{LeadTo}
use Rattle.kept_ledger.specs.TermsView.{PlainTerms}
use Rattle.kept_ledger.specs.Ledger.{Entry, IsLedgerOf, LeavesOnly, stamped}
use Rattle.kept_ledger.specs.Statements.{adding, HasReason}
use Rattle.kept_file.specs.declared.fault.KeepFault.{KeepFault}
use Rattle.kept_file.specs.declared.fault.KeepFault.TheVariants.{Sql}
use Rattle.kept_file.specs.Keeps.{Keeps, HoldsBook, HoldsOne}
use Rattle.kept_lines.specs.declared.fault.LinesFault.{LinesFault}
use Rattle.kept_lines.specs.declared.fault.LinesFault.TheVariants.{CannotKeep, Write}

-- ---- on the disk
-- a connection keeps a book, and each crash leaves a database of it
pub record IsOnDisk (t : PlainTerms) (s : State) (b : PlainBook) : Type 0 where
  pub keeps : Keeps t s b
  pub leaves : LeavesOnly (HoldsBook t b) s

-- events were added: the book that they led to is on the disk
abbrev pub IsKept : State → State → List KeptEvent → Type 0
IsKept old new events = HasCleanDisk new → (t : PlainTerms) (b c : PlainBook) → IsOnDisk t old b → LeadTo b events c → IsOnDisk t new c

-- they were not added: the connection, if it is open still, keeps the book before, and a crash leaves that or the one that they
-- led to
pub record IsCut (t : PlainTerms) (s : State) (b c : PlainBook) : Type 0 where
  pub keeps : IsTrue s.is_open → Keeps t s b
  pub leaves : LeavesOnly (λ db. HoldsBook t b db ⊎ HoldsBook t c db) s

abbrev pub IsUnkept : State → State → List KeptEvent → Type 0
IsUnkept old new events = HasCleanDisk new → (t : PlainTerms) (b c : PlainBook) → IsOnDisk t old b → LeadTo b events c → IsCut t new b c

-- between these two moments of a connection SQLite did not take them, for this reason
module _ {S : Type 0} (g : Ghosts S) where
  abbrev pub IsNotTaken : Held S → Held S → KeepFault → Type 0
  IsNotTaken old new (Sql error) = HasReason g adding old new error
  IsNotTaken old new _ = ⊥

-- ---- when
-- a ledger of these terms has these entries and then events that were added at this time, or none
abbrev pub HasMore : ℕ → PlainTerms → List Entry → State → Type 0
HasMore time t es s = (events : List KeptEvent) × IsLedgerOf t (es ++ stamped time events) s

-- what was added got this time, and the entries before it stay
abbrev pub AddsAt : ℕ → State → State → Type 0
AddsAt time old new = HasCleanDisk new → (t : PlainTerms) (es : List Entry) → IsLedgerOf t es old → HasMore time t es new

-- ---- what is held back
-- nothing was done, or what was held back is kept and then written, and nothing is held back
pub record IsFlushed (old new : State) (out_old out_new : Option (List ℕ)) (events events_left : List KeptEvent) (text text_left : List ℕ) : Type 0 where
  pub clean : HasCleanDisk new → HasCleanDisk old
  pub kept : IsKept old new events
  pub written : Appends out_old out_new text
  pub no_events : events_left ≡ []
  pub no_text : text_left ≡ []

pub record IsHeld (old new : State) (out_old out_new : Option (List ℕ)) (events events_left : List KeptEvent) (text text_left : List ℕ) : Type 0 where
  pub clean : HasCleanDisk new → HasCleanDisk old
  pub stays : (t : PlainTerms) (b : PlainBook) → IsOnDisk t old b → IsOnDisk t new b
  pub out_is : out_new ≡ out_old
  pub events_are : events_left ≡ events
  pub text_is : text_left ≡ text

-- not kept, and nothing of it written; or kept, and a front of it written
abbrev pub IsLost : State → State → Option (List ℕ) → Option (List ℕ) → List KeptEvent → List ℕ → LinesFault → Type 0
IsLost old new out_old out_new events text (CannotKeep why) = (HasCleanDisk new → HasCleanDisk old) × IsUnkept old new events × (out_new ≡ out_old)
IsLost old new out_old out_new events text Write = (HasCleanDisk new → HasCleanDisk old) × IsKept old new events × WritesFront out_old out_new text

-- ---- a session that was not run to its end, by what says that its book with some terms was on the disk when it began
-- these steps are on the disk, and what they answered is all that was written; more steps were done and not answered, and a crash
-- may leave them, too
pub record StopsUnkept (files : List FileText) (start : Session) (Began : PlainTerms → Type 0) (new : State) (out_old out_new : Option (List ℕ)) : Type 0 where
  pub run : List Step
  pub right : AreRight files start run
  pub more : List Step
  pub further : AreRight files (after_steps files start run) more
  pub written : Appends out_old out_new (transcript files start run)
  pub disk : HasCleanDisk new → (t : PlainTerms) → Began t
      → IsCut t new (after_steps files start run).console.book (after_steps files (after_steps files start run) more).console.book

-- these steps are on the disk, and more; the answers of the former were written, and of those of the latter a front, and not all
pub record StopsUnwritten (files : List FileText) (start : Session) (Began : PlainTerms → Type 0) (new : State) (out_old out_new : Option (List ℕ)) : Type 0 where
  pub run : List Step
  pub right : AreRight files start run
  pub more : List Step
  pub further : AreRight files (after_steps files start run) more
  pub so_far : Option (List ℕ)
  pub written : Appends out_old so_far (transcript files start run)
  pub front : WritesFront so_far out_new (transcript files (after_steps files start run) more)
  pub disk : HasCleanDisk new → (t : PlainTerms) → Began t → IsOnDisk t new (after_steps files (after_steps files start run) more).console.book

abbrev pub Stops : List FileText → Session → (PlainTerms → Type 0) → State → Option (List ℕ) → Option (List ℕ) → LinesFault → Type 0
Stops files start Began new out_old out_new (CannotKeep why) = StopsUnkept files start Began new out_old out_new
Stops files start Began new out_old out_new Write = StopsUnwritten files start Began new out_old out_new

-- ---- what a crash leaves
-- this text was written, or a front of it
pub record WritesSome (old new : Option (List ℕ)) (text : List ℕ) : Type 0 where
  pub written : List ℕ
  pub unwritten : List ℕ
  pub cut : text ≡ written ++ unwritten
  pub appends : Appends old new written

-- the book after the first steps of a session, with each one whose answer was written
pub record IsFront (files : List FileText) (start : Session) (out_old out_new : Option (List ℕ)) (left : PlainBook) : Type 0 where
  pub run : List Step
  pub right : AreRight files start run
  pub answered : WritesSome out_old out_new (transcript files start run)
  pub book : left ≡ (after_steps files start run).console.book

-- a book of some terms was on the disk when it began: each crash leaves a database of such a book
abbrev pub LeavesFront : List FileText → Session → (PlainTerms → Type 0) → State → Option (List ℕ) → Option (List ℕ) → Type 0
LeavesFront files start Began new out_old out_new =
    HasCleanDisk new → (t : PlainTerms) → Began t → LeavesOnly (HoldsOne t (IsFront files start out_old out_new)) new

-- ---- a script
-- before its first line
abbrev pub script_on : PlainBook → List ℕ → Session
script_on b script = begun b (lines_of script)
