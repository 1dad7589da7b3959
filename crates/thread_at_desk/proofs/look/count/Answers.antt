use Rattle.std.proofs.Common.{refl}
use Rattle.thread_at_desk.proofs.Framing.{asked}
use Rattle.thread_at_desk.proofs.look.count.Goals as goal

pub returns-clause-one : goal.returns-clause-one
returns-clause-one g c = asked _ _ refl
