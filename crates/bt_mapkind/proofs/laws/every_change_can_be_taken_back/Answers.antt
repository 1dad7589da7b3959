use Rattle.bt_mapkind.proofs.Turning.{taken_back}
use Rattle.bt_mapkind.proofs.laws.every_change_can_be_taken_back.Goals as goal

pub returns : goal.returns
returns c = taken_back
