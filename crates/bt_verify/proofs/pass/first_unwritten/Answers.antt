use Rattle.std.proofs.Common.{◌≡◌, ℕ, arith, below_more, rules}
use Rattle.std.proofs.lemmas.Option.{slice_get_within}
use Rattle.std.proofs.lemmas.Nat.Bits.{bit_at-zero}
use Rattle.bt_insn.specs.Register.{number_of}
use Rattle.bt_verify.specs.declared.slot.Slot.TheVariants.{First}
use Rattle.bt_verify.specs.Paths.{IsUnwritten}
use Rattle.bt_verify.proofs.pass.first_unwritten.Goals as goal

pub returns-in-Some-clause-found : goal.returns-in-Some-clause-found
returns-in-Some-clause-found c =
    let low = c.in-Some.ensures.found in
    record {
      here = c.visit-lacking.ensures.only (number_of c.in-Some.register) low.register low.set;
      earlier = λ k r lt u. c.loop-place.invariant.earlier k lt r u;
      least = λ r lt u. omega (arith, low.least r lt, c.visit-lacking.ensures.all r u.register u);
    }

pub loop-place-preserved : goal.loop-place-preserved
loop-place-preserved c =
    let zero_is : c.visit-lacking.result ≡ 0 = search (rules, c.in_default.ensures.none) in
    record {
      visits = omega (arith, c.loop-place.invariant.visits);
      table = c.visit-lacking.ensures.next zero_is;
      earlier = below_more (λ k. (r : ℕ) → IsUnwritten c.args.slots.now k r → ⊥) c.loop-place.place c.loop-place.invariant.earlier
          (λ r u. let one = rw zero_is at (c.visit-lacking.ensures.all r u.register u) in omega (arith, bit_at-zero r, one));
    }

pub returns-clause-none : goal.returns-clause-none
returns-clause-none c = λ k r u. c.loop-place.invariant.earlier k (omega (arith, slice_get_within c.args.slots.now k (First u.insn) u.stands)) r u
