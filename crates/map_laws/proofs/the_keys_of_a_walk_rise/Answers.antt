use Rattle.map_laws.proofs.Rising.{keys_rise}
use Rattle.map_laws.proofs.the_keys_of_a_walk_rise.Goals as goal

pub returns : goal.returns
returns c = keys_rise
