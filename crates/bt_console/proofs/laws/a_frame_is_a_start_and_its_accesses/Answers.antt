use Rattle.bt_console.proofs.Evented.{by_frame}
use Rattle.bt_console.proofs.laws.a_frame_is_a_start_and_its_accesses.Goals as goal

pub returns : goal.returns
returns c = by_frame
