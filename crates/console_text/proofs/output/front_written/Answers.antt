use Rattle.std.proofs.Common.{arith}
use Rattle.std.proofs.lemmas.Bool.Decides.{nat_tests}
use Rattle.console_text.proofs.Writing.{keeps_idle}
use Rattle.console_text.proofs.output.front_written.Goals as goal

pub returns-in-Ok-eq0-clause-bytes : goal.returns-in-Ok-eq0-clause-bytes
returns-in-Ok-eq0-clause-bytes g c = keeps_idle _ _ _ _ (omega (arith, nat_tests)) c.in-Ok-eq0.ensures.bytes
