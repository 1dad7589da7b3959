-- What lines came to: how many were accepted and refused, and what went wrong last.
use Rattle.std.specs.Prelude.{ℕ, ◌+◌, ◌-◌, ◌^◌, min, List, [], ◌∷◌, Option, Some, None}
use Rattle.bt_syntax.specs.declared.files.FileText.{FileText}
use Rattle.console_answer.specs.Mishaps.{later, mishap_behind}
use Rattle.console_answer.specs.declared.told.Told.{Told}
use Rattle.console_answer.specs.declared.told.Told.TheVariants as told
use Rattle.console_answer.specs.declared.answer.Answer.{Answer}
use Rattle.console_answer.specs.declared.mishap.Mishap.{Mishap}
use Rattle.console_answer.specs.declared.mishap.Mishap.TheVariants as mishap
use Rattle.console_script.specs.declared.summary.Summary.{Summary}
use Rattle.console_script.specs.declared.tally.Tally.{Tally}
use Rattle.console_script.specs.Transcript.{one_more, accepted_one, refused_one, counted, Session, Step, step_done}

abbrev pub fresh : Summary → Tally
fresh summary = record { summary = summary; mishap = None }

-- with one more answer
abbrev pub tallied : Tally → Option Answer → Tally
tallied tally answer = record { summary = counted tally.summary answer; mishap = mishap_behind tally.mishap answer }

-- the same by what was told of a line
abbrev pub counted_told : Summary → Told → Summary
counted_told summary told.Empty = summary
counted_told summary told.Processed = summary
counted_told summary told.Accepted = accepted_one summary
counted_told summary (told.Aborted abort) = accepted_one summary
counted_told summary told.NoAction = accepted_one summary
counted_told summary (told.Refused fault) = refused_one summary

-- those of both; at the greatest u64 a count stays
abbrev pub sum_at_most : ℕ → ℕ → ℕ
sum_at_most one other = min (one + other) (2 ^ 64 - 1)

abbrev pub both_counts : Summary → Summary → Summary
both_counts one other = record { accepted = sum_at_most one.accepted other.accepted; refused = sum_at_most one.refused other.refused }

abbrev pub mishap_told : Option Mishap → Told → Option Mishap
mishap_told before (told.Refused fault) = Some (mishap.Refused fault)
mishap_told before (told.Aborted abort) = Some (mishap.Aborted abort)
mishap_told before told.NoAction = Some mishap.NoAction
mishap_told before _ = before

abbrev pub tallied_told : Tally → Told → Tally
tallied_told tally it = record { summary = counted_told tally.summary it; mishap = mishap_told tally.mishap it }

abbrev pub lines_told : List (List ℕ) → Told → List (List ℕ)
lines_told lines (told.Refused fault) = []
lines_told lines _ = lines

abbrev pub accepted_told : ℕ → Told → ℕ
accepted_told accepted told.Empty = accepted
accepted_told accepted (told.Refused fault) = accepted
accepted_told accepted _ = one_more accepted

-- what went wrong last in some steps
abbrev pub mishap_in : List FileText → Session → List Step → Option Mishap
mishap_in files s [] = None
mishap_in files s (it ∷ run) = later (mishap_behind None (step_done files s it).1) (mishap_in files (step_done files s it).0 run)
