-- What holds of the boxes of all lines of a script holds in a host run.
use Rattle.std.proofs.Common.{ℕ, List, [], ◌∷◌, ◌++◌, Option, Result, Ok, Err, inl, inr}
use Rattle.journal_model.specs.Book.{PlainBook}
use Rattle.bt_syntax.specs.declared.files.FileText.{FileText}
use Rattle.console_script.specs.Transcript.{Step, RanAll}
use Rattle.console_script.specs.declared.summary.Summary.{Summary}
use Rattle.thread_host_run.specs.HostRuns.{RanScript, StoppedWithin, RunsHost}
use Rattle.thread_host_run.specs.declared.fault.RunHostFault.{RunHostFault}
use Rattle.thread_host_run.specs.declared.fault.RunHostFault.TheVariants.{BadDevices, BadLimits, BadFrames, NoMemory, NoThread, Write}

module _ (old new : Option (List ℕ)) (b : PlainBook) (P Q : List Step → Type 0) (files : List FileText) (script frames : List ℕ) (implies : (run : List Step) → P run → Q run) where
  ran_all : (between : Option (List ℕ)) (left : PlainBook) (summary : Summary) → RanAll old between b P files script left summary → RanAll old between b Q files script left summary
  ran_all between left summary it = record { run = it.run; boxes = implies it.run it.boxes; right = it.right; all = it.all; written = it.written; book = it.book; counts = it.counts }

  ran_script : (summary : Summary) (told : Result (Unit {0}) RunHostFault) → RanScript old new b P files script frames summary told → RanScript old new b Q files script frames summary told
  ran_script summary told it = record { all = it.all; in_file = it.in_file; left = it.left; between = it.between; script_ran = ran_all it.between it.left summary it.script_ran; frames_told = it.frames_told }

  stopped : StoppedWithin old new b P files script frames → StoppedWithin old new b Q files script frames
  stopped it = let ran = it.script_ran in record {
    left = it.left;
    script_ran = record {
      run = ran.run;
      last = ran.last;
      boxes = implies (ran.run ++ ran.last ∷ []) ran.boxes;
      right = ran.right;
      front = ran.front;
      unwritten = ran.unwritten;
      cut = ran.cut;
      some_left = ran.some_left;
      written = ran.written;
      book = ran.book;
    };
  }

  pub runs_with : (result : Result Summary RunHostFault) → RunsHost old new b P files script frames result → RunsHost old new b Q files script frames result
  runs_with (Ok summary) it = ran_script summary (Ok tt) it
  runs_with (Err BadFrames) it = it
  runs_with (Err NoMemory) (inl it) = inl it
  runs_with (Err NoMemory) (inr it) = inr (it.0, ran_script it.0 (Err NoMemory) it.1)
  runs_with (Err NoThread) it = (it.0, ran_script it.0 (Err NoThread) it.1)
  runs_with (Err Write) (inl it) = inl (stopped it)
  runs_with (Err Write) (inr it) = inr (it.0, ran_script it.0 (Err Write) it.1)
  runs_with (Err BadDevices) it = it
  runs_with (Err BadLimits) it = it
