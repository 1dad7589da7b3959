-- The commands on runs, as their words spell them.
use Rattle.std.specs.Prelude.{◌≡◌, ℕ, List, [], ◌∷◌, Some, codes}
use Rattle.console_operand.specs.Number.{long_number_of}
use Rattle.bt_syntax.specs.FrameGrammar.{IsFrame}
use Rattle.bt_syntax.specs.declared.frame.Frame.{Frame}
use Rattle.bt_syntax.specs.declared.run.RunCommand.{RunCommand}
use Rattle.bt_syntax.specs.declared.run.RunCommand.TheVariants.{Start, Step}

-- the words after `run` spell this command
pub data SpellsRun : List (List ℕ) → RunCommand → Type 0 where
  start : {words : List (List ℕ)} {it : Frame} → IsFrame words it → SpellsRun (codes "start" ∷ words) (Start it)
  step : {word : List ℕ} {number : ℕ} → long_number_of word ≡ Some number → SpellsRun (codes "step" ∷ word ∷ []) (Step number)
