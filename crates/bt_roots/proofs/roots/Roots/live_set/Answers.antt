use Rattle.std.proofs.Common.{◌↔◌, sym, subst, Contains}
use Rattle.std.proofs.lemmas.Result.{IfOk-weaker}
use Rattle.bt_roots.specs.declared.target.Target.{Target}
use Rattle.bt_roots.specs.Reachable.{IsRoot}
use Rattle.bt_roots.proofs.LiveLemmas.{live_is}
use Rattle.bt_roots.proofs.Walking.{reaches_alike}
use Rattle.bt_roots.proofs.roots.Roots.live_set.Goals as goal

pub returns-clause-reachable : goal.returns-clause-reachable
returns-clause-reachable c =
    let roots : (t : Target) → Contains c.deref.result.now t ↔ IsRoot c.args.self.now.pins c.args.self.now.devices t = subst (λ l. (t : Target) → Contains l t ↔ IsRoot c.args.self.now.pins c.args.self.now.devices t) (sym c.deref.ensures.value) c.in_ok-starts.ensures in
    IfOk-weaker c.reachable_from.result _ _ (λ live exact t.
    let alike = reaches_alike c.args.links.now roots t in
    (λ h. alike.0 ((exact t).0 h), λ r. (exact t).1 (alike.1 r)))
    c.reachable_from.ensures.reachable

pub returns-clause-live : goal.returns-clause-live
returns-clause-live c =
    IfOk-weaker c.reachable_from.result _ _ (λ live exact t.
    let test = live_is c.args.self.now.pins c.args.self.now.devices c.args.links.now t in
    (λ h. test.1 ((exact t).0 h), λ h. (exact t).1 (test.0 h)))
    (returns-clause-reachable c)
