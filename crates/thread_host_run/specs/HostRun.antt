-- A host run: a script, frames that are served on the host that it made, and maybe a script after them.
use Rattle.std.specs.Prelude.{◌≡◌, ℕ, List, Option, Ok}
use Rattle.std.specs.Io.KnownBytes.{Appends}
use Rattle.thread_frames.specs.declared.frame.FrameIn.{FrameIn}
use Rattle.journal_model.specs.Book.{PlainBook, opened}
use Rattle.bt_syntax.specs.declared.files.FileText.{FileText}
use Rattle.console_script.specs.declared.summary.Summary.{Summary}
use Rattle.console_script.specs.Tallies.{both_counts}
use Rattle.console_script.specs.Transcript.{RanAll}
use Rattle.console_script.specs.Made.{AllGetNew}
use Rattle.thread_host_run.specs.FramesOf.{AreFramesOf}
use Rattle.thread_host_run.specs.HostRuns.{AreToldOf}
use Rattle.thread_host_run.specs.FrameResult.{FrameResult}
use Rattle.console_script.specs.Host.{device_names, limits}

-- on a new host a script was run to its end, and then frames were served; what both print was written, and the host is left so
pub record HasServed (old new : Option (List ℕ)) (files : List FileText) (script frames : List ℕ) (closed : PlainBook) (counts : Summary) : Type 0 where
  pub book : PlainBook
  pub opens : opened device_names limits ≡ Ok book
  pub left : PlainBook
  pub between : Option (List ℕ)
  pub ran : RanAll old between book AllGetNew files script left counts
  pub all : List FrameIn
  pub in_file : AreFramesOf frames all
  pub ends : List FrameResult
  pub told : AreToldOf left all ends closed (Appends between new)

-- and then another script was run to its end there, and what it prints was written
pub record HasServedThen (old new : Option (List ℕ)) (files : List FileText) (script frames : List ℕ) (then_files : List FileText) (then_script : List ℕ) (summary : Summary) : Type 0 where
  pub closed : PlainBook
  pub counts : Summary
  pub between : Option (List ℕ)
  pub served : HasServed old between files script frames closed counts
  pub left : PlainBook
  pub more : Summary
  pub ran : RanAll between new closed AllGetNew then_files then_script left more
  pub counted : summary ≡ both_counts counts more
