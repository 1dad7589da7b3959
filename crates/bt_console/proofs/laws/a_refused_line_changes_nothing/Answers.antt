use Rattle.bt_console.proofs.Refused.{left_by_line}
use Rattle.bt_console.proofs.laws.a_refused_line_changes_nothing.Goals as goal

pub returns : goal.returns
returns c = left_by_line
