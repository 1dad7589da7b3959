use Rattle.map_laws.proofs.Bounded.{turned_bounded}
use Rattle.map_laws.proofs.bounds.a_turning_leaves_what_is_bounded.Goals as goal

pub returns : goal.returns
returns c = turned_bounded
