use Rattle.std.proofs.Common.{◌≡◌, ◌++◌}
use Rattle.console_input.proofs.named.append.Given as goal

abbrev pub invariant-loop-file : goal.invariant-loop-file
invariant-loop-file l = l.files.items ≡ l.initial.files.items ++ l.yielded
