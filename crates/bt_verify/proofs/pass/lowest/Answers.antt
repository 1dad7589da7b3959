use Rattle.std.proofs.Common.{◌≡◌, ℕ, ◌<◌, Option, Some, None}
use Rattle.std.specs.Prelude.{IfSome, IfNone, IsSome, ◌↔◌}
use Rattle.std.specs.Int.{trailing_zeros, w16}
use Rattle.bt_insn.specs.Register.{number_of}
use Rattle.bt_insn.specs.declared.register.Register.{Register}
use Rattle.bt_verify.specs.Masks.{IsLowest}
use Rattle.bt_verify.proofs.Table.{lowest}
use Rattle.bt_verify.proofs.pass.lowest.Goals as goal

found : (n t : ℕ) (o : Option Register) → IsLowest n t → IfSome o (λ r. number_of r ≡ t) → IfSome o (λ r. IsLowest n (number_of r))
found n t None low h = tt
found n t (Some r) low h = rw h low

none : (n t : ℕ) (o : Option Register) → IsLowest n t → (IsSome o ↔ (t < 11)) → IfNone o (n ≡ 0)
none n t None low h = let e = h.1 low.register in absurd cc
none n t (Some r) low h = tt

pub returns-clause-found : goal.returns-clause-found
returns-clause-found c = found c.args.registers (trailing_zeros w16 c.args.registers) c.new.result (lowest c.args.registers c.if-registers-eq0.false c.requires) c.new.ensures.found

pub returns-clause-none : goal.returns-clause-none
returns-clause-none c = none c.args.registers (trailing_zeros w16 c.args.registers) c.new.result (lowest c.args.registers c.if-registers-eq0.false c.requires) c.new.ensures.legal
