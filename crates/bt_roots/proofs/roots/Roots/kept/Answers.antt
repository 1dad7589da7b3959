use Rattle.std.proofs.Common.{◌≡◌, ◌↔◌, ◌++◌, ap, subst, ◌∙◌, Contains}
use Rattle.bt_roots.specs.declared.target.Target.{Target}
use Rattle.bt_roots.specs.Reachable.{IsPinned, IsAttached, IsRoot}
use Rattle.bt_roots.specs.Slots.{pins_of, roots_view}
use Rattle.bt_roots.proofs.Starts.{both_lists}
use Rattle.bt_roots.proofs.roots.Roots.kept.Goals as goal

pub returns : goal.returns
unfolding roots_view
returns c =
    let pins = c.in_ok-kept.kept.items in
    let progs = c.in_ok-attached.attached.items in
    let devices = c.self.inside.devices.items in
    let kept = c.extend_from_slice.new.self.items in
    let joined : kept ≡ pins ++ progs = c.in_ok-extend_from_slice.ensures.items ∙ ap (λ l. pins ++ l) c.deref-2.ensures.value in
    let attached : (t : Target) → Contains progs t ↔ IsAttached devices t = subst (λ ds. (t : Target) → Contains progs t ↔ IsAttached ds t) c.deref.ensures.value c.in_ok-attached.ensures in
    let named = both_lists pins progs kept (IsPinned (pins_of c.self.inside.slots.entries)) (IsAttached devices) joined c.in_ok-kept.ensures attached in
    subst (λ v. (t : Target) → Contains kept t ↔ IsRoot v.pins v.devices t) c.self.view_is named
