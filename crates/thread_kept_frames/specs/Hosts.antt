-- A script on a kept book, and frames that are served on the book that it left: what is written, and what is then on the disk.
use Rattle.std.specs.Prelude.{◌≡◌, ℕ, List, length, Option, Result, Ok, Err, OnOk}
use Rattle.std.specs.Io.KnownBytes.{Appends}
use Rattle.sqlite.specs.State.{State, HasCleanDisk}
use Rattle.sqlite.specs.Files.{file_state}
use Rattle.sqlite.specs.declared.error.Error.{Error}
use Rattle.journal_model.specs.Book.{PlainBook}
use Rattle.bt_syntax.specs.declared.files.FileText.{FileText}
use Rattle.console_script.specs.Transcript.{RanAll}
use Rattle.console_script.specs.declared.summary.Summary.{Summary}
use Rattle.console_script.specs.Made.{AllGetNew}
use Rattle.thread_frames.specs.declared.frame.FrameIn.{FrameIn}
use Rattle.thread_host_run.specs.FramesOf.{AreFramesOf}
use Rattle.thread_host_run.specs.HostRuns.{AreToldOf}
use Rattle.kept_ledger.specs.TermsView.{PlainTerms}
use Rattle.kept_lines.specs.Begun.{WasReady, HasBook, IsNotRun, IsNotOpened, AddsNow}
use Rattle.kept_lines.specs.Kept.{IsOnDisk, Stops as LinesStop, script_on}
use Rattle.kept_lines.specs.declared.databases.Database.{Database}
use Rattle.kept_lines.specs.declared.fault.KeptFault.{KeptFault}
use Rattle.kept_lines.specs.declared.fault.KeptFault.TheVariants.{Open, Make, Lines}
use Rattle.kept_lines.specs.declared.fault.LinesFault.{LinesFault}
use Rattle.thread_kept_frames.specs.Serving.{Stops}
use Rattle.thread_kept_frames.specs.declared.fault.ServeFault.{ServeFault}
use Rattle.thread_kept_frames.specs.declared.host_fault.HostRunFault.{HostRunFault}
use Rattle.thread_kept_frames.specs.declared.host_fault.HostRunFault.TheVariants.{Script, Frames}
use Rattle.thread_kept_frames.specs.declared.host_fault.HostInFileFault.{HostInFileFault}
use Rattle.thread_kept_frames.specs.declared.host_fault.HostInFileFault.TheVariants as in_file
use Rattle.thread_kept_frames.specs.declared.kept.ServedHost.{ServedHost}

-- ---- on the book of a database
module _ (terms : PlainTerms) (old : State) where
  -- this book is that of the database
  abbrev pub IsOfDatabase : State → PlainBook → Type 0
  IsOfDatabase new book = HasCleanDisk new → WasReady old → (t : PlainTerms) (b : PlainBook) → HasBook terms t old b → book ≡ b

  -- it was, with these terms, when the script began
  abbrev pub HadBook : PlainBook → PlainTerms → Type 0
  HadBook book t = WasReady old × HasBook terms t old book

module _ (terms : PlainTerms) (files : List FileText) (script : List ℕ) (all : List FrameIn) (old new : State) (out_old out_new : Option (List ℕ)) where
  -- the lines were run on the book of the database, with a new map for each that they make, and then the frames were served on the
  -- book that they led to; what both print was written, and the book that the frames left is on the disk
  pub record ServedKept (it : ServedHost) : Type 0 where
    pub book : PlainBook
    pub begins : IsOfDatabase terms old new book
    pub left : PlainBook
    pub between : Option (List ℕ)
    pub ran : RanAll out_old between book AllGetNew files script left it.summary
    pub closed : PlainBook
    pub told : AreToldOf left all it.ends.items closed (Appends between out_new)
    pub moments : it.moments ≡ length closed.line.moments
    pub kept : HasCleanDisk new → (t : PlainTerms) → HadBook terms old book t → IsOnDisk t new closed

  -- the lines were run on the book of the database up to one whose effect was not kept, or whose answer was not written
  pub record StopsInScript (why : LinesFault) : Type 0 where
    pub book : PlainBook
    pub begins : IsOfDatabase terms old new book
    pub stops : LinesStop files (script_on book script) (HadBook terms old book) new out_old out_new why

  -- all lines were run on it, kept and answered; the frames were not served on the book that they led to, or not kept, or not told
  pub record StopsInFrames (fault : ServeFault) : Type 0 where
    pub book : PlainBook
    pub begins : IsOfDatabase terms old new book
    pub left : PlainBook
    pub summary : Summary
    pub between : Option (List ℕ)
    pub ran : RanAll out_old between book AllGetNew files script left summary
    pub stops : Stops all left (HadBook terms old book) new between out_new fault

  -- the book was not begun, or not all lines were run on it: no frame was served
  abbrev pub StopsBeforeFrames : KeptFault → Type 0
  StopsBeforeFrames (Open why) = IsNotOpened terms old new out_old out_new why
  StopsBeforeFrames (Make error) = IsNotRun terms old new out_old out_new
  StopsBeforeFrames (Lines why) = StopsInScript why

  abbrev pub ServesKept : Result ServedHost HostRunFault → Type 0
  ServesKept (Ok it) = ServedKept it
  ServesKept (Err (Script fault)) = StopsBeforeFrames fault
  ServesKept (Err (Frames fault)) = StopsInFrames fault

-- ---- on the book of a file
-- these frames stand in a file, and on a connection that was opened script and frames went so
pub record ServesOpened (may_open : Result Database Error → Type 0) (may_be_time : ℕ → Type 0) (terms : PlainTerms) (files : List FileText) (script frames : List ℕ) (out_old out_new : Option (List ℕ)) (result : Result ServedHost HostRunFault) : Type 0 where
  pub all : List FrameIn
  pub in_file : AreFramesOf frames all
  pub old : Database
  pub new : Database
  pub opened : may_open (Ok old)
  pub ready : WasReady (file_state old.conn)
  pub went : ServesKept terms files script all (file_state old.conn) (file_state new.conn) out_old out_new result
  pub times : OnOk result (AddsNow terms may_be_time (file_state old.conn) (file_state new.conn))

-- or the file was not opened, and no line was run; if the bytes are frames of no file, it was not asked for
abbrev pub ServesInFile : (Result Database Error → Type 0) → (ℕ → Type 0) → PlainTerms → List FileText → List ℕ → List ℕ → Option (List ℕ) → Option (List ℕ) → Result ServedHost HostInFileFault → Type 0
ServesInFile may_open may_be_time terms files script frames out_old out_new (Ok it) = ServesOpened may_open may_be_time terms files script frames out_old out_new (Ok it)
ServesInFile may_open may_be_time terms files script frames out_old out_new (Err in_file.BadFrames) = ((all : List FrameIn) → AreFramesOf frames all → ⊥) × (out_new ≡ out_old)
ServesInFile may_open may_be_time terms files script frames out_old out_new (Err in_file.NoMemory) = out_new ≡ out_old
ServesInFile may_open may_be_time terms files script frames out_old out_new (Err (in_file.Unopened error)) = may_open (Err error) × (out_new ≡ out_old)
ServesInFile may_open may_be_time terms files script frames out_old out_new (Err (in_file.Kept fault)) = ServesOpened may_open may_be_time terms files script frames out_old out_new (Err fault)
