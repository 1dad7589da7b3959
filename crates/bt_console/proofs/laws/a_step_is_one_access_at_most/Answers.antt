use Rattle.bt_console.proofs.Evented.{by_step}
use Rattle.bt_console.proofs.laws.a_step_is_one_access_at_most.Goals as goal

pub returns : goal.returns
returns c = by_step
