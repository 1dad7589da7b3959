-- How a host run ends, by how its parts went.
use Rattle.std.proofs.Common.{◌≡◌, ℕ, List, Option, Result, Ok, Err, inl, inr, ap, subst}
use Rattle.thread_frames.specs.declared.frame.FrameIn.{FrameIn}
use Rattle.thread_host_run.specs.FramesOf.{AreFramesOf}
use Rattle.bt_journal.specs.BookView.{BookView, Opens}
use Rattle.journal_model.specs.Book.{PlainBook, opened}
use Rattle.journal_model.specs.declared.faults.BookFault.{BookFault}
use Rattle.journal_model.specs.declared.limits.Limits.{Limits}
use Rattle.bt_syntax.specs.declared.files.FileText.{FileText}
use Rattle.console_script.specs.Transcript.{Step, RanAll, Ran}
use Rattle.console_script.specs.declared.script.ScriptFault.{ScriptFault}
use Rattle.console_script.specs.declared.summary.Summary.{Summary}
use Rattle.console_script.specs.Made.{AllGetNew}
use Rattle.thread_host_run.specs.HostRuns.{TellsFrames, ended, RunsHost, RunsNewHost}
use Rattle.thread_host_run.specs.declared.fault.RunHostFault.{RunHostFault}
use Rattle.thread_host_run.specs.declared.fault.RunHostFault.TheVariants.{BadDevices, BadLimits, BadFrames, NoMemory, NoThread, Write}

module _ (old between new : Option (List ℕ)) (b : PlainBook) (supplied : List Step → Type 0) (files : List FileText) (script frames : List ℕ) (left : PlainBook) where
  -- the script was run to its end, and the frames went so
  pub ran : (summary : Summary) (all : List FrameIn) (told : Result (Unit {0}) RunHostFault) (ran : Result Summary ScriptFault) → AreFramesOf frames all → ran ≡ Ok summary
      → Ran old between b supplied files script left ran → TellsFrames between new left all told → RunsHost old new b supplied files script frames (ended summary told)
  ran summary all told result in_file is went tells = by told tells
    where
      script_ran : RanAll old between b supplied files script left summary
      script_ran = subst (λ (r : Result Summary ScriptFault). Ran old between b supplied files script left r) is went

      by : (told : Result (Unit {0}) RunHostFault) → TellsFrames between new left all told → RunsHost old new b supplied files script frames (ended summary told)
      by (Ok done) h = record { all = all; in_file = in_file; left = left; between = between; script_ran = script_ran; frames_told = h }
      by (Err Write) h = inr (summary, record { all = all; in_file = in_file; left = left; between = between; script_ran = script_ran; frames_told = h })
      by (Err NoMemory) h = inr (summary, record { all = all; in_file = in_file; left = left; between = between; script_ran = script_ran; frames_told = h })
      by (Err NoThread) h = (summary, record { all = all; in_file = in_file; left = left; between = between; script_ran = script_ran; frames_told = h })
      by (Err BadFrames) h = absurd h
      by (Err BadDevices) h = absurd h
      by (Err BadLimits) h = absurd h

module _ (old new : Option (List ℕ)) (b : PlainBook) (supplied : List Step → Type 0) (files : List FileText) (script frames : List ℕ) (left : PlainBook) where
  -- a write failed within the script's transcript
  pub stopped : (fault : ScriptFault) (ran : Result Summary ScriptFault) → ran ≡ Err fault → Ran old new b supplied files script left ran → RunsHost old new b supplied files script frames (Err Write)
  stopped fault result is went = inl (record { left = left; script_ran = subst (λ (r : Result Summary ScriptFault). Ran old new b supplied files script left r) is went })

-- if the whole stopped for a write after its script, the frames did
pub ended_stops : (summary : Summary) (told : Result (Unit {0}) RunHostFault) (result : Result Summary RunHostFault) → result ≡ ended summary told → result ≡ Err Write → told ≡ Err Write
ended_stops summary (Ok done) result is stops = let e : result ≡ Ok summary = is in absurd (cc (e, stops))
ended_stops summary (Err fault) result is stops =
    let e : result ≡ Err fault = is in
    let same : fault ≡ Write = cc (e, stops) in
    ap Err same

-- the book was opened for it
pub ran_anew : (old new : Option (List ℕ)) (devices : List (List ℕ)) (limits : Limits) (files : List FileText) (script frames : List ℕ) (opening : Result BookView BookFault) (book : BookView) (result : Result Summary RunHostFault)
    → opening ≡ Ok book → Opens (opened devices limits) opening → RunsHost old new book.plain AllGetNew files script frames result → RunsNewHost old new devices limits files script frames result
ran_anew old new devices limits files script frames opening book result is opens went = by result went
  where
    open_so : opened devices limits ≡ Ok book.plain
    open_so = (subst (λ r. Opens (opened devices limits) r) is opens).0

    by : (result : Result Summary RunHostFault) → RunsHost old new book.plain AllGetNew files script frames result → RunsNewHost old new devices limits files script frames result
    by (Ok summary) h = record { book = book.plain; opens = open_so; ran = h }
    by (Err BadFrames) h = record { book = book.plain; opens = open_so; ran = h }
    by (Err NoMemory) h = inr (record { book = book.plain; opens = open_so; ran = h })
    by (Err NoThread) h = record { book = book.plain; opens = open_so; ran = h }
    by (Err Write) h = record { book = book.plain; opens = open_so; ran = h }
    by (Err BadDevices) h = absurd h
    by (Err BadLimits) h = absurd h
