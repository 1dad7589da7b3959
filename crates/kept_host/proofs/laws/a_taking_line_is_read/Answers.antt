use Rattle.kept_host.proofs.TakingRead.{taking_read}
use Rattle.kept_host.proofs.laws.a_taking_line_is_read.Goals as goal

pub returns : goal.returns
returns c = taking_read
