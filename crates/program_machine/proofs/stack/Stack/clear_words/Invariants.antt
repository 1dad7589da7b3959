use Rattle.std.proofs.Common.{◌≡◌}
use Rattle.program_machine.specs.Stack.{cleared_words}
use Rattle.program_machine.proofs.stack.Stack.clear_words.Given as goal

abbrev pub invariant-loop-k : goal.invariant-loop-k
invariant-loop-k l = l.self ≡ cleared_words l.fn.self l.word l.k
