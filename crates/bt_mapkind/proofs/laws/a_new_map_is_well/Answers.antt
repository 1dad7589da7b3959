use Rattle.bt_mapkind.proofs.Fresh.{fresh_is_well}
use Rattle.bt_mapkind.proofs.laws.a_new_map_is_well.Goals as goal

pub returns : goal.returns
returns c = fresh_is_well
