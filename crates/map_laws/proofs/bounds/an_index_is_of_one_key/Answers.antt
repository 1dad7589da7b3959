use Rattle.map_laws.proofs.Bounded.{index_of_one}
use Rattle.map_laws.proofs.bounds.an_index_is_of_one_key.Goals as goal

pub returns : goal.returns
returns c = index_of_one
