use Rattle.std.proofs.Common.{◌∙◌}
use Rattle.bt_mapkind.specs.Read.{key_of_index}
use Rattle.bt_mapkind.proofs.OfKinds.{some_is}
use Rattle.bt_changes.proofs.running.key_of_index.Goals as goal

pub returns : goal.returns
unfolding key_of_index
returns c = some_is _ _ _ _ c.of.ensures c.unwrap.ensures ∙ c.to_le_bytes.ensures
