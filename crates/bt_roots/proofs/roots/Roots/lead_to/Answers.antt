use Rattle.std.proofs.Common.{◌↔◌, sym, subst, Contains}
use Rattle.std.proofs.lemmas.Result.{IfOk-weaker}
use Rattle.bt_roots.specs.declared.target.Target.{Target}
use Rattle.bt_roots.specs.Reachable.{IsRoot}
use Rattle.bt_roots.proofs.roots.Roots.lead_to.Goals as goal

pub returns : goal.returns
returns c =
    let kept : (t : Target) → Contains c.deref.result.now t ↔ IsRoot c.args.self.now.pins c.args.self.now.devices t = subst (λ l. (t : Target) → Contains l t ↔ IsRoot c.args.self.now.pins c.args.self.now.devices t) (sym c.deref.ensures.value) c.in_ok-starts.ensures in
    IfOk-weaker c.lead_to.result _ _ (λ lead exact. (
      λ is. let (k, x, lt, at, source) = exact.0 is in (x, (kept x).0 (k, lt, at), source),
      λ (x, root, source). let (k, lt, at) = (kept x).1 root in exact.1 (k, x, lt, at, source),
    ))
    c.lead_to.ensures
