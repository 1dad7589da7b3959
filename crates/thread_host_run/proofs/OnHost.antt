-- A script, and frames that were served on the host that it left.
use Rattle.std.proofs.Common.{◌≡◌, ℕ, List, Option, Ok}
use Rattle.std.specs.Io.KnownBytes.{Appends, Keeps}
use Rattle.thread_frames.specs.declared.frame.FrameIn.{FrameIn}
use Rattle.journal_model.specs.Book.{PlainBook}
use Rattle.bt_syntax.specs.declared.files.FileText.{FileText}
use Rattle.console_script.specs.declared.summary.Summary.{Summary}
use Rattle.console_script.specs.Transcript.{Step, RanAll}
use Rattle.console_script.specs.Made.{AllGetNew}
use Rattle.thread_host_run.specs.HostRuns.{AreToldOf, RunsNewHost}
use Rattle.thread_host_run.specs.FrameResult.{FrameResult}
use Rattle.console_script.specs.Host.{device_names, limits}
use Rattle.console_script.specs.Tallies.{both_counts}
use Rattle.thread_host_run.specs.HostRun.{HasServed, HasServedThen}
use Rattle.std.proofs.KnownBytes.{Appends-kept}

-- if what holds of the boxes of a script implies another fact, that holds of them too
pub ran_so : {P Q : List Step → Type 0} (old new : Option (List ℕ)) (book left : PlainBook) (files : List FileText) (script : List ℕ) (summary : Summary) → ((run : List Step) → P run → Q run)
    → RanAll old new book P files script left summary → RanAll old new book Q files script left summary
ran_so old new book left files script summary implies it = record { run = it.run; boxes = implies it.run it.boxes; right = it.right; all = it.all; written = it.written; book = it.book; counts = it.counts }

-- what was told of frames stays if nothing more was written after it
pub told_kept : (from closed : PlainBook) (all : List FrameIn) (ends : List FrameResult) (old mid new : Option (List ℕ)) → AreToldOf from all ends closed (Appends old mid) → Keeps mid new → AreToldOf from all ends closed (Appends old new)
told_kept from closed all ends old mid new it kept = record { served = it.served; wrote = Appends-kept old mid new _ it.wrote kept }

module _ (old new : Option (List ℕ)) (files : List FileText) (script frames : List ℕ) where
  pub runs_new : (closed : PlainBook) (summary : Summary) → HasServed old new files script frames closed summary → RunsNewHost old new device_names limits files script frames (Ok summary)
  runs_new closed summary it = record {
    book = it.book;
    opens = it.opens;
    ran = record {
      all = it.all;
      in_file = it.in_file;
      left = it.left;
      between = it.between;
      script_ran = it.ran;
      frames_told = record { ends = it.ends; closed = closed; served = it.told.served; wrote = it.told.wrote };
    };
  }

-- and then another script was run there
module _ (old between new : Option (List ℕ)) (files : List FileText) (script frames : List ℕ) (closed : PlainBook) (counts : Summary) (P : List Step → Type 0) (then_files : List FileText) (then_script : List ℕ) (left : PlainBook) where
  pub served_behind : (more : Summary) → HasServed old between files script frames closed counts → ((run : List Step) → P run → AllGetNew run) → RanAll between new closed P then_files then_script left more
      → (summary : Summary) → summary ≡ both_counts counts more → HasServedThen old new files script frames then_files then_script summary
  served_behind more served implies it summary counted = record {
    closed = closed;
    counts = counts;
    between = between;
    served = served;
    left = left;
    more = more;
    ran = ran_so between new closed left then_files then_script more implies it;
    counted = counted;
  }
