use Rattle.kept_lines.proofs.RangeRead.{range_no_command}
use Rattle.kept_lines.proofs.laws.a_range_is_no_command.Goals as goal

pub returns : goal.returns
returns c = range_no_command
