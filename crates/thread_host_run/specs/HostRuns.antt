-- A script, and frames that two workers serve on the book that it left.
use Rattle.std.specs.Prelude.{◌≡◌, ◌≢◌, ◌⊎◌, ℕ, ◌++◌, List, [], ◌∷◌, length, Option, Result, Ok, Err}
use Rattle.std.specs.List.{range_with_len}
use Rattle.std.specs.List.Sorted.{IsPermutation}
use Rattle.std.specs.Io.KnownBytes.{Appends}
use Rattle.journal_model.specs.Book.{PlainBook, opened}
use Rattle.journal_model.specs.declared.faults.BookFault.TheVariants as book
use Rattle.journal_model.specs.declared.limits.Limits.{Limits}
use Rattle.bt_syntax.specs.declared.files.FileText.{FileText}
use Rattle.console_script.specs.Transcript.{Step, RanAll, RanTo}
use Rattle.console_script.specs.declared.summary.Summary.{Summary}
use Rattle.console_text.specs.Written.{WritesFront}
use Rattle.thread_lock.specs.History.{own}
use Rattle.bt_desk.specs.Histories.{Call, Runs}
use Rattle.thread_frames.specs.declared.frame.FrameIn.{FrameIn}
use Rattle.thread_host_run.specs.FramesOf.{AreFramesOf}
use Rattle.bt_workers.specs.declared.result.FrameResult.{FrameResult}
use Rattle.bt_workers.specs.Worked.{EndBy, numbers_of}
use Rattle.console_script.specs.Made.{AllGetNew}
use Rattle.thread_host_run.specs.FrameTexts.{ends_text}
use Rattle.thread_host_run.specs.declared.fault.RunHostFault.{RunHostFault}
use Rattle.thread_host_run.specs.declared.fault.RunHostFault.TheVariants.{BadDevices, BadLimits, BadFrames, NoMemory, NoThread, Write}

-- half of the calls of a desk
abbrev pub half : ℕ
half = 2305843009213693952

-- A legal history leads from one book to the other. In it a seat made the calls of some frames, one frame after another, and
-- no others, and a second seat so those of the other frames; no further seat made one. Each frame ended once
pub record AreServed (from : PlainBook) (all : List FrameIn) (ends : List FrameResult) (to : PlainBook) : Type 0 where
  pub history : List Call
  pub runs : Runs from history to
  pub first : ℕ
  pub second : ℕ
  pub differ : first ≢ second
  pub by_both : own (first ∷ second ∷ []) history ≡ history
  pub ones : List FrameResult
  pub twos : List FrameResult
  pub by_first : EndBy all half ones (own (first ∷ []) history)
  pub by_second : EndBy all half twos (own (second ∷ []) history)
  pub order : IsPermutation (ones ++ twos) ends
  pub each : numbers_of ends ≡ range_with_len 1 (length all)

-- frames were served that ended so, and this was written of their ends and of the moments of the book that they left
pub record AreToldOf (from : PlainBook) (all : List FrameIn) (ends : List FrameResult) (closed : PlainBook) (Wrote : List ℕ → Type 0) : Type 0 where
  pub served : AreServed from all ends closed
  pub wrote : Wrote (ends_text ends (length closed.line.moments))

-- whatever their ends and the book that they left
pub record AreTold (from : PlainBook) (all : List FrameIn) (Wrote : List ℕ → Type 0) : Type 0 where
  pub ends : List FrameResult
  pub closed : PlainBook
  pub served : AreServed from all ends closed
  pub wrote : Wrote (ends_text ends (length closed.line.moments))

-- if the frames of a host run did not come to their end
abbrev pub FailsFrames : Option (List ℕ) → Option (List ℕ) → PlainBook → List FrameIn → RunHostFault → Type 0
FailsFrames old new from all Write = AreTold from all (WritesFront old new)
FailsFrames old new from all NoMemory = new ≡ old
FailsFrames old new from all NoThread = new ≡ old
FailsFrames old new from all BadFrames = ⊥
FailsFrames old new from all BadDevices = ⊥
FailsFrames old new from all BadLimits = ⊥

-- how the frames of a host run went, after its script
abbrev pub TellsFrames : {T : Type 0} → Option (List ℕ) → Option (List ℕ) → PlainBook → List FrameIn → Result T RunHostFault → Type 0
TellsFrames old new from all (Ok done) = AreTold from all (Appends old new)
TellsFrames old new from all (Err fault) = FailsFrames old new from all fault

-- what the frames came to, with the counts of the script in front of them
abbrev pub ended : Summary → Result (Unit {0}) RunHostFault → Result Summary RunHostFault
ended summary (Ok done) = Ok summary
ended summary (Err fault) = Err fault

module _ (old new : Option (List ℕ)) (b : PlainBook) (supplied : List Step → Type 0) (files : List FileText) (script frames : List ℕ) where
  -- the frames were read, the script was run to its end and its transcript written, and the frames went so
  pub record RanScript (summary : Summary) (told : Result (Unit {0}) RunHostFault) : Type 0 where
    pub all : List FrameIn
    pub in_file : AreFramesOf frames all
    pub left : PlainBook
    pub between : Option (List ℕ)
    pub script_ran : RanAll old between b supplied files script left summary
    pub frames_told : TellsFrames between new left all told

  -- a write failed within the script's transcript
  pub record StoppedWithin : Type 0 where
    pub left : PlainBook
    pub script_ran : RanTo old new b supplied files script left

  -- how a host run went; if it was not begun nothing was written
  abbrev pub RunsHost : Result Summary RunHostFault → Type 0
  RunsHost (Ok summary) = RanScript summary (Ok tt)
  RunsHost (Err BadFrames) = ((all : List FrameIn) → AreFramesOf frames all → ⊥) × (new ≡ old)
  RunsHost (Err NoMemory) = (new ≡ old) ⊎ ((summary : Summary) × RanScript summary (Err NoMemory))
  RunsHost (Err NoThread) = (summary : Summary) × RanScript summary (Err NoThread)
  RunsHost (Err Write) = StoppedWithin ⊎ ((summary : Summary) × RanScript summary (Err Write))
  RunsHost (Err BadDevices) = ⊥
  RunsHost (Err BadLimits) = ⊥

module _ (old new : Option (List ℕ)) (devices : List (List ℕ)) (limits : Limits) (files : List FileText) (script frames : List ℕ) where
  -- a book was opened with these devices and limits, and on it a host run went so
  pub record RanAnew (result : Result Summary RunHostFault) : Type 0 where
    pub book : PlainBook
    pub opens : opened devices limits ≡ Ok book
    pub ran : RunsHost old new book AllGetNew files script frames result

  -- how a host run went on a new host; if no book was opened nothing was written
  abbrev pub RunsNewHost : Result Summary RunHostFault → Type 0
  RunsNewHost (Ok summary) = RanAnew (Ok summary)
  RunsNewHost (Err BadDevices) = (opened devices limits ≡ Err book.BadDevices) × (new ≡ old)
  RunsNewHost (Err BadLimits) = (opened devices limits ≡ Err book.BadLimits) × (new ≡ old)
  RunsNewHost (Err BadFrames) = RanAnew (Err BadFrames)
  RunsNewHost (Err NoMemory) = (new ≡ old) ⊎ RanAnew (Err NoMemory)
  RunsNewHost (Err NoThread) = RanAnew (Err NoThread)
  RunsNewHost (Err Write) = RanAnew (Err Write)
