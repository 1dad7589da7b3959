use Rattle.console_input.proofs.LiveOrder.{args_within}
use Rattle.console_input.proofs.order.live_options_are_within_bounds.Goals as goal

pub returns : goal.returns
returns c = args_within
