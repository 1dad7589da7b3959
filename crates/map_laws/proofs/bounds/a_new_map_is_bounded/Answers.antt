use Rattle.map_laws.proofs.Bounded.{fresh_is_bounded}
use Rattle.map_laws.proofs.bounds.a_new_map_is_bounded.Goals as goal

pub returns : goal.returns
returns c = fresh_is_bounded
