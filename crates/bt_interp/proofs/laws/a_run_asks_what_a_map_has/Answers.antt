use Rattle.bt_interp.proofs.KnownRuns.{asks_what_maps_have}
use Rattle.bt_interp.proofs.laws.a_run_asks_what_a_map_has.Goals as goal

pub returns : goal.returns
returns c = asks_what_maps_have
