-- A transcript by the lines of its script: the texts of each line one after the other, and those of a batch's lines in place
-- of the line that runs it.
use Rattle.std.specs.Prelude.{◌≡◌, ℕ, List, [], ◌∷◌, ◌++◌, map, Option, Some, None}
use Rattle.journal_model.specs.Book.{PlainBook}
use Rattle.console_operand.specs.Line.{lines_of}
use Rattle.bt_syntax.specs.Files.{batch_at}
use Rattle.bt_syntax.specs.Steps.{line_read}
use Rattle.bt_syntax.specs.declared.files.FileText.{FileText}
use Rattle.console_script.specs.Transcript.{Session, Step, place_of, begun, after_steps, transcript, AreRight}

-- the lines that steps ran; none if a batch ended
abbrev pub lines_ran : List Step → List (Option (List ℕ))
lines_ran run = map (λ (it : Step). it.line) run

-- the lines of a batch that were run, which are its first, all of them or up to one that was refused
pub record IsBatchRun (line : List ℕ) (batch : List (List ℕ)) (run : List Step) : Type 0 where
  pub ran : List (List ℕ)
  pub left : List (List ℕ)
  pub whole : batch ≡ ran ++ left
  pub lines : lines_ran run ≡ Some line ∷ (map Some ran ++ None ∷ [])

-- a line is run by itself; and if it runs a batch whose file is at hand, with the batch's lines and its end after it
abbrev pub IsLineRun : List ℕ → Option (Option (List ℕ)) → List Step → Type 0
IsLineRun line None run = lines_ran run ≡ Some line ∷ []
IsLineRun line (Some None) run = lines_ran run ≡ Some line ∷ []
IsLineRun line (Some (Some text)) run = IsBatchRun line (lines_of text) run

-- a line's texts, and then those of the lines after it
pub record LineThen (files : List FileText) (Behind : Session → List Step → Type 0) (line : List ℕ) (s : Session) (run : List Step) : Type 0 where
  pub first : List Step
  pub rest : List Step
  pub whole : run ≡ first ++ rest
  pub its : IsLineRun line (batch_at files (line_read line)) first
  pub text : transcript files s run ≡ transcript files s first ++ transcript files (after_steps files s first) rest
  pub behind : Behind (after_steps files s first) rest

-- the lines of a script, one after the other
abbrev pub ByLines : List FileText → List (List ℕ) → Session → List Step → Type 0
ByLines files [] s run = transcript files s run ≡ []
ByLines files (line ∷ lines) s run = LineThen files (ByLines files lines) line s run

-- a run of a whole script
abbrev pub IsByLines : List FileText → PlainBook → List ℕ → List Step → Type 0
IsByLines files b script run =
    AreRight files (begun b (lines_of script)) run → (after_steps files (begun b (lines_of script)) run).place ≡ place_of [] None
    → ByLines files (lines_of script) (begun b (lines_of script)) run
