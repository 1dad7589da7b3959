use Rattle.std.proofs.Common.{◌≡◌, ℕ, ◌<◌, Some, length, below_more, arith}
use Rattle.std.specs.Prelude.{slice_get}
use Rattle.std.proofs.lemmas.Option.{slice_get_within}
use Rattle.bt_mapkind.specs.declared.attr.MapAttr.{MapAttr}
use Rattle.bt_verify.proofs.Pairs.{below_at, not_below_at}
use Rattle.bt_verify.proofs.maps.place_of.Goals as goal

pub loop-place-preserved : goal.loop-place-preserved
loop-place-preserved c = below_more (λ k. (m : ℕ × MapAttr) → slice_get c.args.maps.now k ≡ Some m → m.0 < c.args.id) c.loop-place.place c.loop-place.invariant
    (λ m e. below_at c.args.maps.now c.loop-place.place c.args.id _ m c.if-maps-place.false e)

pub returns-then-maps-place-clause-below : goal.returns-then-maps-place-clause-below
returns-then-maps-place-clause-below c = λ k m lt e. c.loop-place.invariant k lt m e

pub returns-then-maps-place-clause-stops : goal.returns-then-maps-place-clause-stops
returns-then-maps-place-clause-stops c = λ m e. not_below_at c.args.maps.now c.loop-place.place c.args.id _ m c.if-maps-place.true e

pub returns-clause-below : goal.returns-clause-below
returns-clause-below c = λ k m lt e. c.loop-place.invariant k (omega (arith, slice_get_within c.args.maps.now k m e)) m e

pub returns-clause-stops : goal.returns-clause-stops
returns-clause-stops c = λ m e. absurd (omega (arith, slice_get_within c.args.maps.now (length c.args.maps.now) m e))
