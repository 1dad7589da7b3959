use Rattle.bt_roots.proofs.LiveLemmas.{live_is}
use Rattle.bt_roots.proofs.laws.liveness_is_reachability.Goals as goal

pub returns : goal.returns
returns c = live_is
