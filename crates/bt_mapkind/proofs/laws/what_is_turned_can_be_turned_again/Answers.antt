use Rattle.bt_mapkind.proofs.Stays.{stays}
use Rattle.bt_mapkind.proofs.laws.what_is_turned_can_be_turned_again.Goals as goal

pub returns : goal.returns
returns c = stays
