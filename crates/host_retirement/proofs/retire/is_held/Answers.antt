use Rattle.std.proofs.Common.{◌↔◌, Option, IsTrue, IfOk, sym, subst}
use Rattle.bt_roots.specs.declared.target.Target.{Target}
use Rattle.host_retirement.specs.Cut.{IsHeld}
use Rattle.host_retirement.proofs.retire.is_held.Goals as goal

pub returns-in-Some : goal.returns-in-Some
returns-in-Some c =
    subst (λ (cut : Option Target). IfOk c.lead_to.result (λ held. IsTrue held ↔ IsHeld c.args.roots.now.pins c.args.roots.now.devices c.args.links.now cut))
    (sym c.in-Some.is) c.lead_to.ensures
