use Rattle.std.proofs.Common.{refl}
use Rattle.thread_asides.proofs.looks.look_at.Goals as goal

pub returns-in-Show-clause-told : goal.returns-in-Show-clause-told
returns-in-Show-clause-told g c = rw c.in-Show.is c.show_now.ensures.shown

pub returns-in-DryUndo-clause-told : goal.returns-in-DryUndo-clause-told
returns-in-DryUndo-clause-told g c = rw c.in-DryUndo.is refl
