use Rattle.host_apart.proofs.WellLemmas.{turned_well}
use Rattle.host_apart.proofs.a_turning_leaves_maps_well.Goals as goal

pub returns : goal.returns
returns c = turned_well
