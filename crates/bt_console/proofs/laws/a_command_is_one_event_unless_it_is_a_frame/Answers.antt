use Rattle.bt_console.proofs.Evented.{one_event}
use Rattle.bt_console.proofs.laws.a_command_is_one_event_unless_it_is_a_frame.Goals as goal

pub returns : goal.returns
returns c = one_event
