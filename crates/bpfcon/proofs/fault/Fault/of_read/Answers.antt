use Rattle.std.proofs.Common.{refl, inr, rules}
use Rattle.bpfcon.proofs.fault.Fault.of_read.Goals as goal

pub returns-in-Ok : goal.returns-in-Ok
returns-in-Ok c = rw c.in-Unread.is (inr (c.in-Ok.name, search rules, refl))
