use Rattle.std.proofs.Common.{false, refl}
use Rattle.journal_model.specs.Run.{ListAll}
use Rattle.bt_desk.proofs.Visiting.{is_one_event}
use Rattle.thread_asides.proofs.heading.Held.look.Goals as goal

pub returns : goal.returns
returns g c = is_one_event _ _ (false, ListAll) refl
