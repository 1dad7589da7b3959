-- The steps of a script, line by line.
use Rattle.std.proofs.Common.{◌≡◌, ◌⊎◌, inl, inr, ℕ, List, [], ◌∷◌, ◌++◌, map, Option, Some, None, refl, sym, ◌∙◌, ap, subst}
use Rattle.journal_model.specs.Book.{PlainBook}
use Rattle.console_operand.specs.Line.{lines_of}
use Rattle.bt_syntax.specs.Files.{batch_at}
use Rattle.bt_syntax.specs.Steps.{line_read}
use Rattle.bt_syntax.specs.declared.files.FileText.{FileText}
use Rattle.console_script.specs.Lines.{line_done, line_text}
use Rattle.console_answer.specs.declared.answer.Answer.{Answer}
use Rattle.console_answer.specs.declared.answer.Answer.TheVariants as answer
use Rattle.console_script.specs.Transcript.{Batch, batch_behind, lines_behind, Place, place_of, next_line, Session, Step, begun, script_line_done, place_done, step_done, after_steps, transcript, IsRightStep, AreRight}
use Rattle.console_script.specs.ByLines.{lines_ran, IsBatchRun, IsLineRun, LineThen, ByLines, IsByLines}
use Rattle.console_script.proofs.StepRuns.{after-then, transcript-then}

-- a batch goes on, or stops at a refused line
goes_or_stops : (lines : List (List ℕ)) (told : Option Answer) → (lines_behind lines told ≡ lines) ⊎ (lines_behind lines told ≡ [])
goes_or_stops lines None = inl refl
goes_or_stops lines (Some (answer.Refused fault)) = inr refl
goes_or_stops lines (Some _) = inl refl

-- where a script stands, no batch is open at its end
abbrev Ends : List FileText → Session → List Step → Type 0
Ends files s run = (after_steps files s run).place ≡ place_of [] None

open_batch : {P : Type 0} (left : List (List ℕ)) (batch : Batch) → place_of left (Some batch) ≡ place_of [] None → P
open_batch left batch e = absurd (let none : Some batch ≡ None = ap (λ (at : Place). at.batch) e in cc)

line_left : {P : Type 0} (line : List ℕ) (lines : List (List ℕ)) → place_of (line ∷ lines) None ≡ place_of [] None → P
line_left line lines e = absurd (let none : line ∷ lines ≡ [] = ap (λ (at : Place). at.left) e in cc)

-- the lines of a batch that are run, and then its end, after which the script goes on
record IsRestOfBatch (files : List FileText) (left : List (List ℕ)) (lines : List (List ℕ)) (s : Session) (run : List Step) : Type 0 where
  ran : List (List ℕ)
  unrun : List (List ℕ)
  batch : lines ≡ ran ++ unrun
  first : List Step
  rest : List Step
  whole : run ≡ first ++ rest
  lines_are : lines_ran first ≡ map Some ran ++ None ∷ []
  stands : (after_steps files s first).place ≡ place_of left None
  right : AreRight files (after_steps files s first) rest

-- a step leads where its place does
leads : (files : List FileText) (s : Session) (it : Step) (left : List (List ℕ)) (batch : Option Batch) → s.place ≡ place_of left batch → step_done files s it ≡ place_done files s it left batch
leads files s it left batch at = ap (λ (p : Place). place_done files s it p.left p.batch) at

runs : (files : List FileText) (s : Session) (it : Step) (left : List (List ℕ)) (batch : Option Batch) → s.place ≡ place_of left batch → IsRightStep files s it → it.line ≡ next_line (place_of left batch)
runs files s it left batch at right = right.next ∙ ap next_line at

-- one more line of a batch
line_more : (files : List FileText) (left lines : List (List ℕ)) (line : List ℕ) (s : Session) (it : Step) (run : List Step) (told : Option Answer) → it.line ≡ Some line → IsRestOfBatch files left (lines_behind lines told) (step_done files s it).0 run
    → IsRestOfBatch files left (line ∷ lines) s (it ∷ run)
line_more files left lines line s it run told is more = by (goes_or_stops lines told)
  where
    lines_first : lines_ran (it ∷ more.first) ≡ Some line ∷ (map Some more.ran ++ None ∷ [])
    lines_first = ap (λ (l : Option (List ℕ)). l ∷ lines_ran more.first) is ∙ ap (λ (ls : List (Option (List ℕ))). Some line ∷ ls) more.lines_are

    by : (lines_behind lines told ≡ lines) ⊎ (lines_behind lines told ≡ []) → IsRestOfBatch files left (line ∷ lines) s (it ∷ run)
    by (inl goes) = record {
      ran = line ∷ more.ran;
      unrun = more.unrun;
      batch = ap (λ (ls : List (List ℕ)). line ∷ ls) (sym goes ∙ more.batch);
      first = it ∷ more.first;
      rest = more.rest;
      whole = ap (λ (steps : List Step). it ∷ steps) more.whole;
      lines_are = lines_first;
      stands = more.stands;
      right = more.right;
    }
    by (inr stops) = record {
      ran = line ∷ [];
      unrun = lines;
      batch = refl;
      first = it ∷ more.first;
      rest = more.rest;
      whole = ap (λ (steps : List Step). it ∷ steps) more.whole;
      lines_are = lines_first ∙ ap (λ (ls : List (List ℕ)). Some line ∷ (map Some ls ++ None ∷ [])) (none_ran more.ran more.unrun (sym stops ∙ more.batch));
      stands = more.stands;
      right = more.right;
    }
      where
        none_ran : (ran unrun : List (List ℕ)) → [] ≡ ran ++ unrun → ran ≡ []
        none_ran [] unrun e = refl
        none_ran (l ∷ ran) unrun e = absurd (let z : [] ≡ l ∷ (ran ++ unrun) = e in cc)

rest_of_batch : (files : List FileText) (run : List Step) (left lines : List (List ℕ)) (accepted : ℕ) (s : Session) → s.place ≡ place_of left (Some (record { left = lines; accepted = accepted })) → AreRight files s run → Ends files s run
    → IsRestOfBatch files left lines s run
rest_of_batch files [] left lines accepted s at right ends = open_batch left _ (sym at ∙ ends)
rest_of_batch files (it ∷ run) left [] accepted s at right ends =
    let done = leads files s it left _ at in
    record {
      ran = [];
      unrun = [];
      batch = refl;
      first = it ∷ [];
      rest = run;
      whole = refl;
      lines_are = ap (λ (l : Option (List ℕ)). l ∷ []) (runs files s it left _ at right.0);
      stands = ap (λ (d : Session × Option Answer). d.0.place) done;
      right = right.1;
    }
rest_of_batch files (it ∷ run) left (line ∷ lines) accepted s at right ends =
    let done = leads files s it left _ at in
    let told : Option Answer = (line_done files it.course s.console it.blank line).1 in
    line_more files left lines line s it run told (runs files s it left _ at right.0)
    (rest_of_batch files run left (lines_behind lines told) (batch_behind lines accepted told).accepted (step_done files s it).0
    (ap (λ (d : Session × Option Answer). d.0.place) done) right.1 ends)

-- at the end of a script nothing more is written
nothing_more : (files : List FileText) (run : List Step) (s : Session) → s.place ≡ place_of [] None → transcript files s run ≡ []
nothing_more files [] s at = refl
nothing_more files (it ∷ run) s at =
    let done = leads files s it [] None at in
    ap (λ (d : Session × Option Answer). line_text d.1 ++ transcript files d.0 run) done ∙ nothing_more files run s at

-- a line that is run by itself
alone : (files : List FileText) (lines : List (List ℕ)) (line : List ℕ) (s : Session) (it : Step) (run : List Step) → it.line ≡ Some line → IsLineRun line (batch_at files (line_read line)) (it ∷ []) → ByLines files lines (step_done files s it).0 run
    → LineThen files (ByLines files lines) line s (it ∷ run)
alone files lines line s it run is its behind = record {
  first = it ∷ [];
  rest = run;
  whole = refl;
  its = its;
  text = transcript-then files s (it ∷ []) run;
  behind = behind;
}

-- a line of a script, if the lines after it are so
line_then : (files : List FileText) (line : List ℕ) (lines : List (List ℕ)) (s : Session) (it : Step) (run : List Step) (batch : Option (Option (List ℕ)))
    → ((run : List Step) (s : Session) → s.place ≡ place_of lines None → AreRight files s run → Ends files s run → ByLines files lines s run)
    → batch_at files (line_read line) ≡ batch → s.place ≡ place_of (line ∷ lines) None → AreRight files s (it ∷ run) → Ends files s (it ∷ run) → LineThen files (ByLines files lines) line s (it ∷ run)
line_then files line lines s it run batch behind e at right ends = by batch e
  where
    is : it.line ≡ Some line
    is = runs files s it (line ∷ lines) None at right.0

    one : lines_ran (it ∷ []) ≡ Some line ∷ []
    one = ap (λ (l : Option (List ℕ)). l ∷ []) is

    done : (batch : Option (Option (List ℕ))) → batch_at files (line_read line) ≡ batch → step_done files s it ≡ script_line_done files s it line lines batch
    done batch e = leads files s it (line ∷ lines) None at ∙ ap (λ (b : Option (Option (List ℕ))). script_line_done files s it line lines b) e

    stands : (batch : Option (Option (List ℕ))) → batch_at files (line_read line) ≡ batch → (step_done files s it).0.place ≡ (script_line_done files s it line lines batch).0.place
    stands batch e = ap (λ (d : Session × Option Answer). d.0.place) (done batch e)

    by : (batch : Option (Option (List ℕ))) → batch_at files (line_read line) ≡ batch → LineThen files (ByLines files lines) line s (it ∷ run)
    by None e =
        alone files lines line s it run is (subst (λ (b : Option (Option (List ℕ))). IsLineRun line b (it ∷ [])) (sym e) one)
        (behind run (step_done files s it).0 (stands None e) right.1 ends)
    by (Some None) e =
        alone files lines line s it run is (subst (λ (b : Option (Option (List ℕ))). IsLineRun line b (it ∷ [])) (sym e) one)
        (behind run (step_done files s it).0 (stands (Some None) e) right.1 ends)
    by (Some (Some text)) e =
        let next : Session = (step_done files s it).0 in
        let more : IsRestOfBatch files lines (lines_of text) next run = rest_of_batch files run lines (lines_of text) 0 next (stands (Some (Some text)) e) right.1 ends in
        let ran : IsBatchRun line (lines_of text) (it ∷ more.first) = record {
          ran = more.ran;
          left = more.unrun;
          whole = more.batch;
          lines = ap (λ (l : Option (List ℕ)). l ∷ lines_ran more.first) is ∙ ap (λ (ls : List (Option (List ℕ))). Some line ∷ ls) more.lines_are;
        } in
        let ended : Ends files (after_steps files next more.first) more.rest =
        ap (λ (x : Session). x.place) (sym (after-then files next more.first more.rest) ∙ ap (λ (steps : List Step). after_steps files next steps) (sym more.whole)) ∙ ends in
        record {
          first = it ∷ more.first;
          rest = more.rest;
          whole = ap (λ (steps : List Step). it ∷ steps) more.whole;
          its = subst (λ (b : Option (Option (List ℕ))). IsLineRun line b (it ∷ more.first)) (sym e) ran;
          text = ap (λ (steps : List Step). transcript files s (it ∷ steps)) more.whole ∙ transcript-then files s (it ∷ more.first) more.rest;
          behind = behind more.rest (after_steps files next more.first) more.stands more.right ended;
        }

by_lines : (files : List FileText) (lines : List (List ℕ)) (run : List Step) (s : Session) → s.place ≡ place_of lines None → AreRight files s run → Ends files s run → ByLines files lines s run
by_lines files [] run s at right ends = nothing_more files run s at
by_lines files (line ∷ lines) [] s at right ends = line_left line lines (sym at ∙ ends)
by_lines files (line ∷ lines) (it ∷ run) s at right ends =
    line_then files line lines s it run (batch_at files (line_read line)) (by_lines files lines) refl at right ends

pub is_by_lines : (files : List FileText) (b : PlainBook) (script : List ℕ) (run : List Step) → IsByLines files b script run
is_by_lines files b script run right ends = by_lines files (lines_of script) run (begun b (lines_of script)) refl right ends
