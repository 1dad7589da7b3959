use Rattle.map_laws.proofs.Found.{id_stands}
use Rattle.map_laws.proofs.an_id_that_was_put_stands_at_its_place.Goals as goal

pub returns : goal.returns
returns c = id_stands
