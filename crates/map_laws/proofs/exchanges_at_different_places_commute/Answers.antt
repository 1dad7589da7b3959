use Rattle.map_laws.proofs.Apart.{exchanges_apart}
use Rattle.map_laws.proofs.exchanges_at_different_places_commute.Goals as goal

pub returns : goal.returns
returns c = exchanges_apart
