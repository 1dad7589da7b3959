use Rattle.std.proofs.Common.{◌∙◌}
use Rattle.bt_nested.proofs.HashLemmas.{key_seen}
use Rattle.bt_nested.proofs.hash_outer.HashOuterKind.key.Goals as goal

pub returns : goal.returns
returns c = c.of_key.ensures ∙ key_seen _ _ c.args.index c.nth_key.ensures
