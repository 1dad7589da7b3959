-- What lines came to, by what was told of them, is what they came to by their answers.
use Rattle.std.proofs.Common.{◌≡◌, ℕ, List, refl, ap, Option, Some, None}
use Rattle.console_answer.specs.declared.answer.Answer.{Answer}
use Rattle.console_answer.specs.declared.answer.Answer.TheVariants as answer
use Rattle.program_step.specs.declared.outcome.Action.TheVariants as action
use Rattle.bt_interp.specs.declared.end.End.{End}
use Rattle.bt_interp.specs.declared.end.End.TheVariants as end
use Rattle.console_answer.specs.Told.{told_of_end, told_of}
use Rattle.console_script.specs.declared.tally.Tally.{Tally}
use Rattle.console_script.specs.declared.summary.Summary.{Summary}
use Rattle.console_script.specs.Tallies.{tallied, tallied_told, counted_told, lines_told, accepted_told}
use Rattle.console_script.specs.Transcript.{one_more, counted, lines_behind, accepted_behind}

told_tallies_end : (tally : Tally) (it : End) → tallied_told tally (told_of_end it) ≡ tallied tally (Some (answer.Ended it))
told_tallies_end tally (end.Aborted abort) = refl
told_tallies_end tally (end.Done action.Aborted) = refl
told_tallies_end tally (end.Done _) = refl
told_tallies_end tally end.NoProgram = refl

pub told_tallies : (tally : Tally) (it : Option Answer) → tallied_told tally (told_of it) ≡ tallied tally it
told_tallies tally None = refl
told_tallies tally (Some (answer.Refused fault)) = refl
told_tallies tally (Some (answer.Processed count)) = refl
told_tallies tally (Some (answer.Ended it)) = told_tallies_end tally it
told_tallies tally (Some (answer.Stopped run it)) = told_tallies_end tally it
told_tallies tally (Some _) = refl

pub told_counts : (summary : Summary) (it : Option Answer) → counted_told summary (told_of it) ≡ counted summary it
told_counts summary it = let tally : Tally = record { summary = summary; mishap = None } in ap (λ (t : Tally). t.summary) (told_tallies tally it)

told_lines_end : (lines : List (List ℕ)) (it : End) → lines_told lines (told_of_end it) ≡ lines
told_lines_end lines (end.Aborted abort) = refl
told_lines_end lines (end.Done action.Aborted) = refl
told_lines_end lines (end.Done _) = refl
told_lines_end lines end.NoProgram = refl

pub told_lines : (lines : List (List ℕ)) (it : Option Answer) → lines_told lines (told_of it) ≡ lines_behind lines it
told_lines lines None = refl
told_lines lines (Some (answer.Refused fault)) = refl
told_lines lines (Some (answer.Processed count)) = refl
told_lines lines (Some (answer.Ended it)) = told_lines_end lines it
told_lines lines (Some (answer.Stopped run it)) = told_lines_end lines it
told_lines lines (Some _) = refl

told_accepts_end : (accepted : ℕ) (it : End) → accepted_told accepted (told_of_end it) ≡ one_more accepted
told_accepts_end accepted (end.Aborted abort) = refl
told_accepts_end accepted (end.Done action.Aborted) = refl
told_accepts_end accepted (end.Done _) = refl
told_accepts_end accepted end.NoProgram = refl

pub told_accepts : (accepted : ℕ) (it : Option Answer) → accepted_told accepted (told_of it) ≡ accepted_behind accepted it
told_accepts accepted None = refl
told_accepts accepted (Some (answer.Refused fault)) = refl
told_accepts accepted (Some (answer.Processed count)) = refl
told_accepts accepted (Some (answer.Ended it)) = told_accepts_end accepted it
told_accepts accepted (Some (answer.Stopped run it)) = told_accepts_end accepted it
told_accepts accepted (Some _) = refl
