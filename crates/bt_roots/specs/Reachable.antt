-- What is reachable: the least set of objects that holds the roots and is closed under the links.
use Rattle.std.specs.Prelude.{◌≡◌, ◌⊎◌, ℕ, List, Some, Contains, Any}
use Rattle.std.specs.List.Sorted.{IsStrictlySortedBy}
use Rattle.std.specs.FinMap as map
use Rattle.bt_roots.specs.declared.target.Target.{Target}
use Rattle.bt_roots.specs.declared.target.Target.TheVariants.{Prog}
use Rattle.bt_roots.specs.declared.device.Device.{Device}
use Rattle.bt_roots.specs.TargetOrder.{target_cmp}
use Rattle.bt_roots.specs.View.{Pins}

-- pairs of from and to
abbrev pub Links : Type 0
Links = List (Target × Target)

-- pinned at some path
abbrev pub IsPinned : Pins → Target → Type 0
IsPinned pins target = (path : List ℕ) × (map.get pins path ≡ Some target)

-- attached to some device
abbrev pub IsAttached : List Device → Target → Type 0
IsAttached devices target = (id : ℕ) × (target ≡ Prog id) × Any (λ device. device.prog ≡ Some id) devices

abbrev pub IsRoot : Pins → List Device → Target → Type 0
IsRoot pins devices target = IsPinned pins target ⊎ IsAttached devices target

-- a start, and what a link leads to from what is reachable
pub data IsReachable (IsStart : Target → Type 0) (links : Links) : Target → Type 0 where
  start : (target : Target) → IsStart target → IsReachable IsStart links target
  link : (from to : Target) → IsReachable IsStart links from → Contains links (from, to) → IsReachable IsStart links to

-- the target itself, or what a link leads from to it
abbrev pub IsSource : Links → Target → Target → Type 0
IsSource links target from = (from ≡ target) ⊎ Contains links (from, target)

-- each is below those after it, so none stands twice
abbrev pub IsAscending : List Target → Type 0
IsAscending targets = IsStrictlySortedBy target_cmp targets
