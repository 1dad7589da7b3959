-- The steps of a script as events of the book.
use Rattle.std.proofs.Common.{ℕ, List, [], ◌∷◌, Option, Some, None}
use Rattle.bt_syntax.specs.Files.{batch_at}
use Rattle.bt_syntax.specs.Steps.{line_read}
use Rattle.bt_syntax.specs.declared.files.FileText.{FileText}
use Rattle.bt_console.specs.Laws.{LeadsByEvents}
use Rattle.console_script.proofs.Evented.{none, after_both, by_line}
use Rattle.console_script.specs.Transcript.{Batch, Session, Step, script_line_done, batch_done, place_done, step_done, after_steps}

by_script_line : (files : List FileText) (s : Session) (it : Step) (line : List ℕ) (lines : List (List ℕ)) (batch : Option (Option (List ℕ))) →
    LeadsByEvents s.console.book (script_line_done files s it line lines batch).0.console.book
by_script_line files s it line lines None = by_line files s.console it.course it.blank line
by_script_line files s it line lines (Some None) = none s.console.book
by_script_line files s it line lines (Some (Some text)) = none s.console.book

by_place : (files : List FileText) (s : Session) (it : Step) (left : List (List ℕ)) (batch : Option Batch) → LeadsByEvents s.console.book (place_done files s it left batch).0.console.book
by_place files s it [] None = none s.console.book
by_place files s it (line ∷ lines) None = by_script_line files s it line lines (batch_at files (line_read line))
by_place files s it left (Some batch) = by_batch batch.left batch.accepted
  where
    by_batch : (lines : List (List ℕ)) (accepted : ℕ) → LeadsByEvents s.console.book (batch_done files s it left lines accepted).0.console.book
    by_batch [] accepted = none s.console.book
    by_batch (line ∷ lines) accepted = by_line files s.console it.course it.blank line

pub by_steps : (files : List FileText) (s : Session) (run : List Step) → LeadsByEvents s.console.book (after_steps files s run).console.book
by_steps files s [] = none s.console.book
by_steps files s (it ∷ run) =
    let next : Session = (step_done files s it).0 in
    after_both s.console.book next.console.book (after_steps files s (it ∷ run)).console.book
    (by_place files s it s.place.left s.place.batch) (by_steps files next run)
