-- A live host on the book of a database: its setup, the lines that it answers while frames flow, and what is then on the disk.
use Rattle.std.specs.Prelude.{◌≡◌, ℕ, List, length, Option, Result, Ok, Err}
use Rattle.sqlite.specs.State.{State, HasCleanDisk}
use Rattle.sqlite.specs.Files.{file_state}
use Rattle.sqlite.specs.declared.error.Error.{Error}
use Rattle.journal_model.specs.Book.{PlainBook}
use Rattle.bt_syntax.specs.declared.files.FileText.{FileText}
use Rattle.console_input.specs.Named.{AreFilesOf}
use Rattle.console_input.specs.declared.fault.ReadFault.{ReadFault}
use Rattle.console_script.specs.Tallies.{both_counts}
use Rattle.console_script.specs.Transcript.{RanAll}
use Rattle.console_script.specs.declared.summary.Summary.{Summary}
use Rattle.console_script.specs.Made.{AllGetNew}
use Rattle.console_talk.specs.Talk.{place, silent, with_boxes}
use Rattle.thread_frames.specs.declared.frame.FrameIn.{FrameIn}
use Rattle.kept_ledger.specs.TermsView.{PlainTerms}
use Rattle.kept_ledger.specs.Ledger.{LeavesOnly}
use Rattle.kept_file.specs.Keeps.{HoldsOne}
use Rattle.kept_lines.specs.Begun.{WasReady}
use Rattle.kept_lines.specs.Kept.{IsOnDisk}
use Rattle.kept_lines.specs.declared.databases.Database.{Database}
use Rattle.thread_kept_frames.specs.Courses.{start}
use Rattle.thread_kept_frames.specs.Hosts.{IsOfDatabase, HadBook, StopsBeforeFrames}
use Rattle.thread_kept_frames.specs.Living.{LivePlace, beside, LivedThrough, IsLiveFront}
use Rattle.thread_kept_frames.specs.declared.live.fault.LiveHostFault.{LiveHostFault}
use Rattle.thread_kept_frames.specs.declared.live.fault.LiveHostFault.TheVariants.{Script, Live}
use Rattle.thread_kept_frames.specs.declared.live.fault.LiveInFileFault.{LiveInFileFault}
use Rattle.thread_kept_frames.specs.declared.live.fault.LiveInFileFault.TheVariants.{Unopened, Kept}
use Rattle.thread_kept_frames.specs.declared.live.kept.LivedHost.{LivedHost}

-- ---- on the book of a database
module _ (terms : PlainTerms) (files : List FileText) (script : List ℕ) (all : List FrameIn) (passes : Option ℕ) (may_read : List ℕ → ℕ → Result (List ℕ) ReadFault → Type 0) (input : Option (List ℕ)) (old new : State)
    (out_old out_new : Option (List ℕ)) where
  -- the lines of the setup were run on the book of the database, with a new map for each that they make; they led to the book on
  -- which lines are then answered, and their transcript was written before any of these
  pub record IsSetUp : Type 0 where
    pub book : PlainBook
    pub begins : IsOfDatabase terms old new book
    pub left : PlainBook
    pub counts : Summary
    pub asked : Option (List ℕ)
    pub ran : RanAll out_old asked book AllGetNew files script left counts

  -- before the first line of the input, and the first frame
  abbrev pub set_up : IsSetUp → LivePlace (Unit {0})
  set_up it = beside (place tt (silent it.left) it.asked) start

  -- the disk is clean to the end, and the database had its book
  abbrev pub StaysSetUp : IsSetUp → Type 0
  StaysSetUp it = HasCleanDisk new × ((t : PlainTerms) × HadBook terms old it.book t)

  -- then the lines of the input were answered, with a new map for each that they make, while frames flowed; the book that this led
  -- to is on the disk
  pub record LivedKept (it : LivedHost) : Type 0 where
    pub setup : IsSetUp
    pub closed : PlainBook
    pub answered : Summary
    pub lived : LivedThrough all passes (with_boxes AllGetNew) (AreFilesOf may_read) (StaysSetUp setup) input (set_up setup) closed tt out_new answered it.course
    pub summary : it.summary ≡ both_counts setup.counts answered
    pub moments : it.moments ≡ length closed.line.moments
    pub kept : HasCleanDisk new → (t : PlainTerms) → HadBook terms old setup.book t → IsOnDisk t new closed

  -- or that stopped: each crash leaves a database of the book after a front of the lines, with each one that was answered, and after
  -- whole portions of frames
  pub record LiveStops : Type 0 where
    pub setup : IsSetUp
    pub leaves : HasCleanDisk new → (t : PlainTerms) → HadBook terms old setup.book t
        → LeavesOnly (HoldsOne t (IsLiveFront all passes (with_boxes AllGetNew) (AreFilesOf may_read) input (set_up setup) out_new)) new

  abbrev pub LivesKept : Result LivedHost LiveHostFault → Type 0
  LivesKept (Ok it) = LivedKept it
  LivesKept (Err (Script fault)) = StopsBeforeFrames terms files script all old new out_old out_new fault
  LivesKept (Err (Live fault)) = LiveStops

-- ---- on the book of a file
-- so on a connection that was opened
pub record LivesOpened (may_open : Result Database Error → Type 0) (terms : PlainTerms) (files : List FileText) (script : List ℕ) (all : List FrameIn) (passes : Option ℕ) (may_read : List ℕ → ℕ → Result (List ℕ) ReadFault → Type 0)
    (input out_old out_new : Option (List ℕ)) (result : Result LivedHost LiveHostFault) : Type 0 where
  pub old : Database
  pub new : Database
  pub opened : may_open (Ok old)
  pub ready : WasReady (file_state old.conn)
  pub went : LivesKept terms files script all passes may_read input (file_state old.conn) (file_state new.conn) out_old out_new result

-- or the file was not opened, and no line was run
abbrev pub LivesInFile : (Result Database Error → Type 0) → PlainTerms → List FileText → List ℕ → List FrameIn → Option ℕ → (List ℕ → ℕ → Result (List ℕ) ReadFault → Type 0) → Option (List ℕ) → Option (List ℕ) → Option (List ℕ)
    → Result LivedHost LiveInFileFault → Type 0
LivesInFile may_open terms files script all passes may_read input out_old out_new (Ok it) = LivesOpened may_open terms files script all passes may_read input out_old out_new (Ok it)
LivesInFile may_open terms files script all passes may_read input out_old out_new (Err (Unopened error)) = may_open (Err error) × (out_new ≡ out_old)
LivesInFile may_open terms files script all passes may_read input out_old out_new (Err (Kept fault)) = LivesOpened may_open terms files script all passes may_read input out_old out_new (Err fault)
