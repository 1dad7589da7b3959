use Rattle.bt_mapkind.proofs.Turning.{turning}
use Rattle.bt_mapkind.proofs.laws.every_change_is_a_turning.Goals as goal

pub returns : goal.returns
returns c = turning
