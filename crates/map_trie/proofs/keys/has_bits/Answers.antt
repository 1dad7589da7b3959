use Rattle.std.proofs.Common.{get_or, ap, arith, refl, ◌∙◌}
use Rattle.bt_mapkind.specs.Prefix.{high_bits}
use Rattle.map_trie.proofs.MatchLemmas.{differ_here, same_more, same_all}
use Rattle.map_trie.proofs.keys.has_bits.Goals as goal

pub returns-then-prefix-place : goal.returns-then-prefix-place
returns-then-prefix-place c =
    differ_here c.args.prefix.now c.args.bytes.now c.args.bits c.loop-place.place c.loop-place.left (get_or c.args.prefix.now c.loop-place.place 0) (get_or c.args.bytes.now c.loop-place.place 0) c.high_bits.result c.requires c.loop-place-test.true c.loop-place.invariant.left refl refl
    (c.high_bits.ensures ∙ ap (λ n. high_bits n (get_or c.args.bytes.now c.loop-place.place 0)) c.min.ensures) c.if-prefix-place.true

pub loop-place-preserved : goal.loop-place-preserved
loop-place-preserved c = record {
  left = omega (arith, c.loop-place.invariant.left, c.saturating_sub-left.ensures);
  same = same_more c.args.prefix.now c.args.bytes.now c.args.bits c.loop-place.place c.loop-place.left (get_or c.args.prefix.now c.loop-place.place 0) (get_or c.args.bytes.now c.loop-place.place 0) c.high_bits.result c.requires c.loop-place-test.true c.loop-place.invariant.left refl refl
      (c.high_bits.ensures ∙ ap (λ n. high_bits n (get_or c.args.bytes.now c.loop-place.place 0)) c.min.ensures) c.if-prefix-place.false c.loop-place.invariant.same;
}

pub returns : goal.returns
returns c = same_all c.args.prefix.now c.args.bytes.now c.args.bits c.loop-place.place c.requires c.loop-place-test.false c.loop-place.invariant.same
