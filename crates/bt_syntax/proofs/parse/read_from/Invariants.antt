use Rattle.std.proofs.Common.{◌≡◌, length}
use Rattle.console_operand.specs.Word.{words}
use Rattle.console_operand.specs.Automaton.{outcome}
use Rattle.bt_syntax.specs.Steps.{step, finish}
use Rattle.bt_syntax.specs.declared.command.State.TheVariants as s
use Rattle.bt_syntax.proofs.parse.read_from.Given as goal

-- the words read and those that are left come to what all come to
abbrev pub invariant-loop-word : goal.invariant-loop-word
invariant-loop-word l = record { left : outcome step finish l.state l.unread.count l.unread.left ≡ outcome step finish s.Start 0 (words l.fn.line) }

abbrev pub decreases-loop-word : goal.decreases-loop-word
decreases-loop-word l = length l.unread.left
