-- Whether an object is reachable from the pins and the devices, as a test that can be computed.
use Rattle.std.specs.Prelude.{◌↔◌, ℕ, zero, suc, Bool, false, ◌&&◌, ◌||◌, List, Option, None, Some, IsTrue, length}
use Rattle.std.specs.List.{list_any}
use Rattle.std.specs.Ordering.{eq_by_cmp}
use Rattle.std.specs.FinMap as map
use Rattle.bt_roots.specs.declared.target.Target.{Target}
use Rattle.bt_roots.specs.declared.target.Target.TheVariants.{Prog}
use Rattle.bt_roots.specs.declared.device.Device.{Device}
use Rattle.bt_roots.specs.TargetOrder.{target_cmp}
use Rattle.bt_roots.specs.View.{Pins}
use Rattle.bt_roots.specs.Reachable.{Links, IsReachable, IsRoot}

abbrev pub is_same : Target → Target → Bool
is_same target other = eq_by_cmp target_cmp target other

-- whether the object is the program of this id, if there is one
abbrev pub is_prog : Target → Option ℕ → Bool
is_prog target None = false
is_prog target (Some id) = is_same target (Prog id)

-- whether the object is pinned or attached
abbrev pub is_root : Pins → List Device → Target → Bool
is_root pins devices target =
    list_any (λ pin. is_same target pin.1) (map.entries pins) || list_any (λ device. is_prog target device.prog) devices

-- whether a walk over at most so many links leads from a start to the object
abbrev pub leads_within : ℕ → (Target → Bool) → Links → Target → Bool
leads_within zero is_start links target = is_start target
leads_within (suc count) is_start links target =
    leads_within count is_start links target
    || list_any (λ step. is_same target step.1 && leads_within count is_start links step.0) links

-- whether the object is live: no walk need be longer than there are links
unfoldable pub is_live : Pins → List Device → Links → Target → Bool
is_live pins devices links target = leads_within (length links) (is_root pins devices) links target

-- the test tells what is reachable from the roots
abbrev pub IsReachability : Pins → List Device → Links → Target → Type 0
IsReachability pins devices links target = IsTrue (is_live pins devices links target) ↔ IsReachable (IsRoot pins devices) links target
