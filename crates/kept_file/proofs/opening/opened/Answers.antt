use Rattle.std.proofs.Common.{sym, subst}
use Rattle.kept_file.specs.Faults.{TellsWhy}
use Rattle.kept_file.proofs.opening.opened.Goals as goal

pub returns-in-Ok : goal.returns-in-Ok
returns-in-Ok g c = c.redone.ensures c.args.terms c.in-Ok.ensures.begun

pub returns-in-Err : goal.returns-in-Err
returns-in-Err g c = subst (TellsWhy c.args.terms c.args.events.items) (sym c.in-Err.ensures.why) tt
