-- The order of objects: maps come before programs, and each kind by its ids.
use Rattle.std.specs.Prelude.{◌≡◌, refl}
use Rattle.std.proofs.Common.{ap}
use Rattle.std.specs.declared.cmp.Ordering.{Ordering}
use Rattle.std.specs.declared.cmp.Ordering.TheVariants.{Less, Equal, Greater}
use Rattle.std.specs.Ordering.{ordering_reverse, nat_cmp}
use Rattle.std.specs.Cmp.{IsTotalOrder, nat_cmp_total}
use Rattle.std.specs.FinMap.{nat_cmp-IsAntisymmetric}
use Rattle.bt_roots.specs.declared.target.Target.{Target}
use Rattle.bt_roots.specs.declared.target.Target.TheVariants.{Map, Prog}

abbrev pub target_cmp : Target → Target → Ordering
target_cmp (Map a) (Map b) = nat_cmp a b
target_cmp (Map a) (Prog b) = Less
target_cmp (Prog a) (Map b) = Greater
target_cmp (Prog a) (Prog b) = nat_cmp a b

pub turns : (x y : Target) → target_cmp x y ≡ ordering_reverse (target_cmp y x)
turns (Map a) (Map b) = nat_cmp_total.antisymm a b
turns (Map a) (Prog b) = refl
turns (Prog a) (Map b) = refl
turns (Prog a) (Prog b) = nat_cmp_total.antisymm a b

pub chains : (x y z : Target) → target_cmp x y ≡ Less → target_cmp y z ≡ Less → target_cmp x z ≡ Less
chains (Map a) (Map b) (Map c) = nat_cmp_total.trans a b c
chains (Map a) (Map b) (Prog c) = λ p q. refl
chains (Map a) (Prog b) (Map c) = λ p q. cc
chains (Map a) (Prog b) (Prog c) = λ p q. refl
chains (Prog a) (Map b) (Map c) = λ p q. cc
chains (Prog a) (Map b) (Prog c) = λ p q. cc
chains (Prog a) (Prog b) (Map c) = λ p q. cc
chains (Prog a) (Prog b) (Prog c) = nat_cmp_total.trans a b c

-- objects that tie are equal
pub tied_targets : (x y : Target) → target_cmp x y ≡ Equal → x ≡ y
tied_targets (Map a) (Map b) e = ap Map (nat_cmp-IsAntisymmetric a b e)
tied_targets (Map a) (Prog b) e = cc
tied_targets (Prog a) (Map b) e = cc
tied_targets (Prog a) (Prog b) e = ap Prog (nat_cmp-IsAntisymmetric a b e)

pub target_order : IsTotalOrder target_cmp
target_order = record {
  antisymm = turns;
  trans = chains;
  congr = λ x y z e. ap (λ t. target_cmp t z) (tied_targets x y e);
}
