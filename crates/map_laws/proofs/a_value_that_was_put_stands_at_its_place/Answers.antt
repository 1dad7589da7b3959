use Rattle.map_laws.proofs.Found.{value_stands}
use Rattle.map_laws.proofs.a_value_that_was_put_stands_at_its_place.Goals as goal

pub returns : goal.returns
returns c = value_stands
