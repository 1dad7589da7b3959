use Rattle.map_laws.proofs.Bounded.{changed_bounded}
use Rattle.map_laws.proofs.bounds.a_change_leaves_what_is_bounded.Goals as goal

pub returns : goal.returns
returns c = changed_bounded
