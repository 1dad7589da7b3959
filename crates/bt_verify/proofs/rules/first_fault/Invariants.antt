use Rattle.std.proofs.Common.{ℕ, ◌<◌}
use Rattle.bt_verify.specs.Rules.{KeepsRules}
use Rattle.bt_verify.proofs.rules.first_fault.Given as goal

abbrev pub invariant-loop-place : goal.invariant-loop-place
invariant-loop-place l = (k : ℕ) → k < l.place → KeepsRules l.maps l.slots k
