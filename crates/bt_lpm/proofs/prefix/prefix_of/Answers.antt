use Rattle.std.proofs.Common.{◌++◌, ap, ◌∙◌}
use Rattle.bt_mapkind.specs.Prefix.{masked, prefix_data}
use Rattle.bt_lpm.specs.Prefixes.{prefix_of}
use Rattle.bt_lpm.proofs.prefix.prefix_of.Goals as goal

pub returns : goal.returns
unfolding prefix_of
returns c = c.with_head.ensures ∙ ap (λ head. head ++ masked c.args.bits (prefix_data c.args.key.now)) c.to_le_bytes.ensures
