-- What stands between the lines of a dialogue.
use Rattle.console_script.specs.Frames.{OpenRuns, no_runs}
use Rattle.console_script.specs.Transcript.{no_counts}
use Rattle.console_script.specs.declared.summary.Summary.{Summary}

-- the open runs, and how many lines were accepted and refused
pub record DialogueView : Type 0 where
  pub runs : OpenRuns
  pub summary : Summary

-- before the first line
abbrev pub unspoken : DialogueView
unspoken = record { runs = no_runs; summary = no_counts }
