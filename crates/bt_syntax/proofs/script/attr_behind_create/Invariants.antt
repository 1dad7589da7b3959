use Rattle.std.proofs.Common.{◌≡◌, length}
use Rattle.console_operand.specs.Word.{words}
use Rattle.console_operand.specs.Automaton.{read}
use Rattle.console_map_syntax.specs.CreateSteps.{create_step, create_finish}
use Rattle.console_map_syntax.specs.declared.create.CreateState.TheVariants.{Path}
use Rattle.bt_syntax.proofs.script.attr_behind_create.Given as goal

-- the words that are left come to what all come to
abbrev pub invariant-loop-word : goal.invariant-loop-word
invariant-loop-word l = record { left : read create_step create_finish l.state (words l.rest) ≡ read create_step create_finish Path (words l.fn.line) }

abbrev pub decreases-loop-word : goal.decreases-loop-word
decreases-loop-word l = length l.rest
