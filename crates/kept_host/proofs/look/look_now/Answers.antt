use Rattle.std.proofs.Common.{refl}
use Rattle.kept_host.proofs.look.look_now.Goals as goal

pub returns-in-Show-clause-looked : goal.returns-in-Show-clause-looked
returns-in-Show-clause-looked g c = rw c.in-Show.is c.show_now.ensures.shown

pub returns-in-Show-clause-front : goal.returns-in-Show-clause-front
returns-in-Show-clause-front g c = rw c.in-Show.is c.show_now.ensures.front

pub returns-in-DryUndo-clause-looked : goal.returns-in-DryUndo-clause-looked
returns-in-DryUndo-clause-looked g c = rw c.in-DryUndo.is (refl, refl)
