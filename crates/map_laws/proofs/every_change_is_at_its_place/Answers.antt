use Rattle.map_laws.proofs.AtPlaces.{changes_at_its_place}
use Rattle.map_laws.proofs.every_change_is_at_its_place.Goals as goal

pub returns : goal.returns
returns c = changes_at_its_place
