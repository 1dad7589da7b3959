use Rattle.std.proofs.Common.{◌≡◌, ◌≤◌, length, drop}
use Rattle.console_operand.specs.Word.{words}
use Rattle.console_hint.proofs.word.behind.Given as goal

abbrev pub invariant-loop : goal.invariant-loop
invariant-loop l = (words l.rest ≡ drop l.counter (words l.line)) × (length l.rest ≤ length l.line)
