use Rattle.std.proofs.Common.{sym, ◌∙◌, arith}
use Rattle.bt_verify.proofs.Pairs.{found, passed, ended}
use Rattle.bt_verify.proofs.lookup.find_in_turn.Goals as goal

pub returns-then-map-id : goal.returns-then-map-id
returns-then-map-id c = sym (c.loop-map.invariant ∙ found c.args.maps.now c.loop-map.map-index c.args.id _ c.loop-map-test.true c.if-map-id.true)

pub loop-map-preserved : goal.loop-map-preserved
loop-map-preserved c = c.loop-map.invariant ∙ passed c.args.maps.now c.loop-map.map-index c.args.id _ c.loop-map-test.true c.if-map-id.false

pub returns : goal.returns
returns c = sym (c.loop-map.invariant ∙ ended c.args.maps.now c.loop-map.map-index c.args.id (omega arith))
