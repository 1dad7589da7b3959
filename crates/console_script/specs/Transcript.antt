-- The transcript of a script with its batches: what each step does, the answer to it, and all that is written. A step runs
-- the line that comes next, or ends a batch. With each goes how it went: whether an allocation failed in it or in an access
-- of its run, and the verdict on the program that it loads; and the blank of the box that it got of the supplier.
use Rattle.std.specs.Prelude.{◌≡◌, ℕ, ◌+◌, ◌-◌, ◌^◌, ◌<◌, min, List, [], ◌∷◌, ◌++◌, length, Option, Some, None, Result, Ok, Err, ⊤}
use Rattle.std.specs.Io.KnownBytes.{Appends}
use Rattle.journal_model.specs.Blank.{Blank}
use Rattle.journal_model.specs.Book.{PlainBook}
use Rattle.console_operand.specs.Line.{lines_of}
use Rattle.bt_syntax.specs.Files.{batch_at}
use Rattle.bt_syntax.specs.Steps.{line_read}
use Rattle.bt_syntax.specs.declared.files.FileText.{FileText}
use Rattle.console_script.specs.Commands.{Course}
use Rattle.console_script.specs.Frames.{Console, console_of, no_runs}
use Rattle.console_script.specs.Lines.{line_done, line_text, IsRightLine}
use Rattle.console_answer.specs.declared.answer.Answer.{Answer}
use Rattle.console_answer.specs.declared.answer.Answer.TheVariants as answer
use Rattle.console_answer.specs.declared.fault.Fault.TheVariants.{NoFile}
use Rattle.console_script.specs.declared.summary.Summary.{Summary}

-- ---- a count of accepted and of refused lines: at the greatest u64 it stays
abbrev pub one_more : ℕ → ℕ
one_more count = min (count + 1) (2 ^ 64 - 1)

abbrev pub accepted_one : Summary → Summary
accepted_one summary = record { accepted = one_more summary.accepted; refused = summary.refused }

abbrev pub refused_one : Summary → Summary
refused_one summary = record { accepted = summary.accepted; refused = one_more summary.refused }

-- the end of a batch counts as no line
abbrev pub counted : Summary → Option Answer → Summary
counted summary None = summary
counted summary (Some (answer.Processed count)) = summary
counted summary (Some (answer.Refused fault)) = refused_one summary
counted summary (Some _) = accepted_one summary

-- ---- a batch
-- one that is open: its lines that are left, and how many were accepted
pub record Batch : Type 0 where
  pub left : List (List ℕ)
  pub accepted : ℕ

-- it stops at its first refused line
abbrev pub lines_behind : List (List ℕ) → Option Answer → List (List ℕ)
lines_behind lines (Some (answer.Refused fault)) = []
lines_behind lines _ = lines

abbrev pub accepted_behind : ℕ → Option Answer → ℕ
accepted_behind accepted None = accepted
accepted_behind accepted (Some (answer.Refused fault)) = accepted
accepted_behind accepted (Some _) = one_more accepted

abbrev pub batch_behind : List (List ℕ) → ℕ → Option Answer → Batch
batch_behind lines accepted told = record { left = lines_behind lines told; accepted = accepted_behind accepted told }

abbrev pub batch_of : List (List ℕ) → Batch
batch_of lines = record { left = lines; accepted = 0 }

-- ---- steps in order
-- where a script stands: its lines that are left, and the batch that is open
pub record Place : Type 0 where
  pub left : List (List ℕ)
  pub batch : Option Batch

abbrev pub place_of : List (List ℕ) → Option Batch → Place
place_of left batch = record { left = left; batch = batch }

abbrev pub first_line : List (List ℕ) → Option (List ℕ)
first_line [] = None
first_line (line ∷ lines) = Some line

-- the line that comes next; none if a batch ends, or the script does
abbrev pub line_in : List (List ℕ) → Option Batch → Option (List ℕ)
line_in left None = first_line left
line_in left (Some batch) = first_line batch.left

abbrev pub next_line : Place → Option (List ℕ)
next_line at = line_in at.left at.batch

-- after some steps: the console, the counts, and where the script stands
pub record Session : Type 0 where
  pub console : Console
  pub summary : Summary
  pub place : Place

abbrev pub session_of : Console → Summary → List (List ℕ) → Option Batch → Session
session_of c summary left batch = record { console = c; summary = summary; place = place_of left batch }

abbrev pub no_counts : Summary
no_counts = record { accepted = 0; refused = 0 }

abbrev pub begun : PlainBook → List (List ℕ) → Session
begun b lines = session_of (console_of b no_runs) no_counts lines None

-- how a step went: the line that it ran, and the blank of the box that it got
pub record Step : Type 0 where
  pub line : Option (List ℕ)
  pub course : Course
  pub blank : Option Blank

abbrev pub gone_on : Session → Place → Console × Option Answer → Session × Option Answer
gone_on s at done = (record { console = done.0; summary = counted s.summary done.1; place = at }, done.1)

-- a line of the script, which runs no batch, one whose file is not at hand, or one with this text
abbrev pub script_line_done : List FileText → Session → Step → List ℕ → List (List ℕ) → Option (Option (List ℕ)) → Session × Option Answer
script_line_done files s it line lines None = gone_on s (place_of lines None) (line_done files it.course s.console it.blank line)
script_line_done files s it line lines (Some None) = gone_on s (place_of lines None) (s.console, Some (answer.Refused NoFile))
script_line_done files s it line lines (Some (Some text)) = gone_on s (place_of lines (Some (batch_of (lines_of text)))) (s.console, None)

abbrev pub script_done : List FileText → Session → Step → List (List ℕ) → Session × Option Answer
script_done files s it [] = (s, None)
script_done files s it (line ∷ lines) = script_line_done files s it line lines (batch_at files (line_read line))

abbrev pub batch_line_done : Session → List (List ℕ) → List (List ℕ) → ℕ → Console × Option Answer → Session × Option Answer
batch_line_done s left lines accepted done = gone_on s (place_of left (Some (batch_behind lines accepted done.1))) done

abbrev pub batch_done : List FileText → Session → Step → List (List ℕ) → List (List ℕ) → ℕ → Session × Option Answer
batch_done files s it left [] accepted = gone_on s (place_of left None) (s.console, Some (answer.Processed accepted))
batch_done files s it left (line ∷ lines) accepted = batch_line_done s left lines accepted (line_done files it.course s.console it.blank line)

abbrev pub place_done : List FileText → Session → Step → List (List ℕ) → Option Batch → Session × Option Answer
place_done files s it left None = script_done files s it left
place_done files s it left (Some batch) = batch_done files s it left batch.left batch.accepted

-- a step: the session after it, and its answer
abbrev pub step_done : List FileText → Session → Step → Session × Option Answer
step_done files s it = place_done files s it s.place.left s.place.batch

abbrev pub after_steps : List FileText → Session → List Step → Session
after_steps files s [] = s
after_steps files s (it ∷ run) = after_steps files (step_done files s it).0 run

-- all that is written
abbrev pub transcript : List FileText → Session → List Step → List ℕ
transcript files s [] = []
transcript files s (it ∷ run) = line_text (step_done files s it).1 ++ transcript files (step_done files s it).0 run

-- each step ran the line that came next, and went some way that is right
abbrev pub IsRightNext : List FileText → PlainBook → Course → Option (List ℕ) → Type 0
IsRightNext files b course None = ⊤
IsRightNext files b course (Some line) = IsRightLine files b course line

pub record IsRightStep (files : List FileText) (s : Session) (it : Step) : Type 0 where
  pub next : it.line ≡ next_line s.place
  pub right : IsRightNext files s.console.book it.course it.line

abbrev pub AreRight : List FileText → Session → List Step → Type 0
AreRight files s [] = ⊤
AreRight files s (it ∷ run) = IsRightStep files s it × AreRight files (step_done files s it).0 run

-- ---- what a run of a script wrote and left
-- all lines were run, with boxes that were supplied so, and the transcript was written
pub record RanAll (old new : Option (List ℕ)) (b : PlainBook) (supplied : List Step → Type 0) (files : List FileText) (script : List ℕ) (left : PlainBook) (summary : Summary) : Type 0 where
  pub run : List Step
  pub boxes : supplied run
  pub right : AreRight files (begun b (lines_of script)) run
  pub all : (after_steps files (begun b (lines_of script)) run).place ≡ place_of [] None
  pub written : Appends old new (transcript files (begun b (lines_of script)) run)
  pub book : left ≡ (after_steps files (begun b (lines_of script)) run).console.book
  pub counts : summary ≡ (after_steps files (begun b (lines_of script)) run).summary

-- a write of the text of a step failed: the step was done and no later one, and of the transcript up to it a front was
-- written, all that the earlier steps answered and not all that this one did
pub record RanTo (old new : Option (List ℕ)) (b : PlainBook) (supplied : List Step → Type 0) (files : List FileText) (script : List ℕ) (left : PlainBook) : Type 0 where
  pub run : List Step
  pub last : Step
  pub boxes : supplied (run ++ last ∷ [])
  pub right : AreRight files (begun b (lines_of script)) (run ++ last ∷ [])
  pub front : List ℕ
  pub unwritten : List ℕ
  pub cut : transcript files (begun b (lines_of script)) (run ++ last ∷ []) ≡ transcript files (begun b (lines_of script)) run ++ (front ++ unwritten)
  pub some_left : 0 < length unwritten
  pub written : Appends old new (transcript files (begun b (lines_of script)) run ++ front)
  pub book : left ≡ (after_steps files (begun b (lines_of script)) (run ++ last ∷ [])).console.book

abbrev pub Ran : {E : Type 0} → Option (List ℕ) → Option (List ℕ) → PlainBook → (List Step → Type 0) → List FileText → List ℕ → PlainBook → Result Summary E → Type 0
Ran old new b supplied files script left (Ok summary) = RanAll old new b supplied files script left summary
Ran old new b supplied files script left (Err fault) = RanTo old new b supplied files script left
