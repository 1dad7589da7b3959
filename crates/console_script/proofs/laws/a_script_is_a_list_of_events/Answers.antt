use Rattle.console_script.proofs.ScriptEvents.{by_steps}
use Rattle.console_script.proofs.laws.a_script_is_a_list_of_events.Goals as goal

pub returns : goal.returns
returns c = by_steps
