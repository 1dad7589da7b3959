-- What hangs on an object that a pin or a device has let go, and what still holds that object.
use Rattle.std.specs.Prelude.{◌≡◌, ◌⊎◌, List, Option, Some, None, IsTrue}
use Rattle.bt_roots.specs.declared.target.Target.{Target}
use Rattle.bt_roots.specs.declared.device.Device.{Device}
use Rattle.bt_roots.specs.View.{Pins}
use Rattle.bt_roots.specs.Reachable.{Links, IsReachable, IsRoot, IsSource}
use Rattle.host_state.specs.State.{State}
use Rattle.host_state.specs.Settled.{links_of, is_live_in}

-- all that is live is reachable from what is pinned and attached, and from the object that was let go
abbrev pub HangsOn : Option Target → State → Type 0
HangsOn cut s =
    (target : Target) → IsTrue (is_live_in s target) → IsReachable (λ x. IsRoot s.pins s.devices x ⊎ (cut ≡ Some x)) (links_of s) target

-- none was let go, or the one that was is pinned or attached, or one of these links leads to it from an object that is
abbrev pub IsHeld : Pins → List Device → Links → Option Target → Type 0
IsHeld pins devices links None = Unit {0}
IsHeld pins devices links (Some target) = (from : Target) × IsRoot pins devices from × IsSource links target from
