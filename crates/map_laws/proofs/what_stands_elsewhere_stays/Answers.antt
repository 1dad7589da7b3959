use Rattle.map_laws.proofs.Found.{others_stay}
use Rattle.map_laws.proofs.what_stands_elsewhere_stays.Goals as goal

pub returns : goal.returns
returns c = others_stay
