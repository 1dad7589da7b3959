-- What of frames on a kept book is kept and written.
use Rattle.std.specs.Prelude.{◌≡◌, ◌⊎◌, ◌+◌, ⊤, ℕ, IsSome, List, length, Option}
use Rattle.sqlite.specs.State.{State, HasCleanDisk}
use Rattle.journal_model.specs.Book.{PlainBook}
use Rattle.journal_model.specs.Well.{IsWellBook}
use Rattle.thread_frames.specs.declared.frame.FrameIn.{FrameIn}
use Rattle.thread_frames.specs.Faults.{frames_fault}
use Rattle.console_text.specs.Written.{WritesFront}
use Rattle.thread_host_run.specs.FrameTexts.{ends_text}
use Rattle.thread_host_run.specs.HostRuns.{AreServed}
use Rattle.bt_workers.specs.declared.result.FrameResult.{FrameResult}
use Rattle.kept_ledger.specs.TermsView.{PlainTerms}
use Rattle.kept_book.specs.Leading.{LeadTo}
use Rattle.kept_book.specs.Noted.{changes_since}
use Rattle.kept_lines.specs.Kept.{IsOnDisk, IsCut, WritesSome}
use Rattle.kept_lines.specs.declared.fault.LinesFault.TheVariants.{CannotKeep, Write}
use Rattle.thread_kept_frames.specs.declared.fault.ServeFault.{ServeFault}
use Rattle.thread_kept_frames.specs.declared.fault.ServeFault.TheVariants.{BadFrames, NoMemory, NoThread, Lines}

-- ---- what is noted
-- the changes in force above the last serial before the frames, if they are as many as the serials that were given since, lead
-- from the book before the frames to the one after them
abbrev pub ServedLead : PlainBook → List FrameIn → List FrameResult → PlainBook → Type 0
ServedLead b all ends c =
    let changes = changes_since b.last_serial c in
    IsWellBook b → AreServed b all ends c → b.last_serial + length changes ≡ c.last_serial → LeadTo b changes c

-- ---- why nothing is kept or written of any frame
abbrev pub IsUnserved : List FrameIn → ServeFault → Type 0
IsUnserved all BadFrames = IsSome (frames_fault all)
IsUnserved all NoMemory = ⊤
IsUnserved all NoThread = ⊤
IsUnserved all (Lines why) = ⊥

-- ---- frames of whose ends nothing is written yet
-- the book before the frames, or one after all of them
abbrev pub BeforeOrServed : List FrameIn → PlainBook → PlainBook → Type 0
BeforeOrServed all b left = (left ≡ b) ⊎ ((ends : List FrameResult) × AreServed b all ends left)

-- by what says that their book with some terms was on the disk when it began
module _ (all : List FrameIn) (b : PlainBook) (Began : PlainTerms → Type 0) (new : State) where
  -- none was served, or nothing is kept of them
  pub record PortionUnserved (fault : ServeFault) : Type 0 where
    pub why : IsUnserved all fault
    pub disk : HasCleanDisk new → (t : PlainTerms) → Began t → IsOnDisk t new b

  -- all were served, and that is not kept
  pub record PortionUnkept : Type 0 where
    pub ends : List FrameResult
    pub left : PlainBook
    pub served : AreServed b all ends left
    pub disk : HasCleanDisk new → (t : PlainTerms) → Began t → IsCut t new b left

  abbrev pub StopsPortion : ServeFault → Type 0
  StopsPortion (Lines (CannotKeep why)) = PortionUnkept
  StopsPortion (Lines Write) = ⊥
  StopsPortion fault = PortionUnserved fault

-- ---- what a crash leaves
-- the book before the frames, if nothing was written; or one after all of them, of whose ends this was written, or a front of it
abbrev pub BeforeOrAfter : List FrameIn → PlainBook → Option (List ℕ) → Option (List ℕ) → PlainBook → Type 0
BeforeOrAfter all b out_old out_new left =
    ((left ≡ b) × (out_new ≡ out_old))
    ⊎ ((ends : List FrameResult) × AreServed b all ends left × WritesSome out_old out_new (ends_text ends (length left.line.moments)))

-- ---- frames that are not told to the last, by what says that their book with some terms was on the disk when it began
module _ (all : List FrameIn) (b : PlainBook) (Began : PlainTerms → Type 0) (new : State) (out_old out_new : Option (List ℕ)) where
  -- none was served, or nothing is kept and nothing was written of them
  pub record StopsUnserved (fault : ServeFault) : Type 0 where
    pub why : IsUnserved all fault
    pub unwritten : out_new ≡ out_old
    pub disk : HasCleanDisk new → (t : PlainTerms) → Began t → IsOnDisk t new b

  -- all were served, and that is not kept: nothing was written
  pub record StopsUnkept : Type 0 where
    pub ends : List FrameResult
    pub left : PlainBook
    pub served : AreServed b all ends left
    pub unwritten : out_new ≡ out_old
    pub disk : HasCleanDisk new → (t : PlainTerms) → Began t → IsCut t new b left

  -- that is kept, and of their ends a front was written
  pub record StopsUnwritten : Type 0 where
    pub ends : List FrameResult
    pub left : PlainBook
    pub served : AreServed b all ends left
    pub front : WritesFront out_old out_new (ends_text ends (length left.line.moments))
    pub disk : HasCleanDisk new → (t : PlainTerms) → Began t → IsOnDisk t new left

  abbrev pub Stops : ServeFault → Type 0
  Stops (Lines (CannotKeep why)) = StopsUnkept
  Stops (Lines Write) = StopsUnwritten
  Stops fault = StopsUnserved fault
