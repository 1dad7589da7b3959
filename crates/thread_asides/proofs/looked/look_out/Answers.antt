use Rattle.std.proofs.Common.{false, refl}
use Rattle.journal_model.specs.Run.{ListAll}
use Rattle.bt_desk.proofs.Visiting.{is_one_event}
use Rattle.thread_asides.proofs.looked.look_out.Goals as goal

pub returns-clause-one : goal.returns-clause-one
returns-clause-one g c = is_one_event _ _ (false, ListAll) refl
