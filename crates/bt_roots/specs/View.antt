-- What contracts see of the roots: the pins, the devices in order, and the paths that have room.
use Rattle.std.specs.Prelude.{ℕ, Bool, List, [], ◌∷◌, Option, None, map, ◌&&◌, not, nat_le, nat_eq, length, position, true}
use Rattle.std.specs.declared.cmp.Ordering.{Ordering}
use Rattle.std.specs.List.{list_all, list_any}
use Rattle.std.specs.Ordering.{nat_cmp}
use Rattle.std.specs.Cmp.Lexicographic.{slice_cmp, pointwise}
use Rattle.std.specs.FinMap as finite
use Rattle.std.specs.FinSet as set
use Rattle.std.specs.FinMap.{FinMap}
use Rattle.std.specs.FinSet.{FinSet}
use Rattle.host_words.specs.Spelling.{is_name}
use Rattle.bt_roots.specs.declared.target.Target.{Target}
use Rattle.bt_roots.specs.declared.device.Device.{Device}

-- paths are ordered by their bytes
abbrev pub path_cmp : List ℕ → List ℕ → Ordering
path_cmp = slice_cmp nat_cmp

-- from a path to the object that is pinned there
abbrev pub Pins : Type 0
Pins = FinMap path_cmp Target

-- a set of paths
abbrev pub Paths : Type 0
Paths = FinSet path_cmp

-- the paths with room are those of accepted pins, whatever is pinned there now
pub record RootsView : Type 0 where
  pub pins : Pins
  pub devices : List Device
  pub room : Paths

-- a device with no program
abbrev pub free_device : List ℕ → Device
free_device name = record { name = name; prog = None }

-- roots with devices of these names: no pin, no program and no path with room
abbrev pub fresh_roots : List (List ℕ) → RootsView
fresh_roots names = record { pins = finite.empty; devices = map free_device names; room = set.empty }

-- whether the device has the name
abbrev pub is_named : List ℕ → Device → Bool
is_named name device = pointwise nat_eq device.name name

-- where the first device of the name stands, from 0
abbrev pub position_of : List Device → List ℕ → Option ℕ
position_of devices name = position (is_named name) devices

-- whether no two names are equal
abbrev pub are_distinct : List (List ℕ) → Bool
are_distinct [] = true
are_distinct (name ∷ names) =
    not (list_any (λ other. pointwise nat_eq other name) names) && are_distinct names

-- 1 to 16 good names, no two of them equal
unfoldable pub devices_are_good : List (List ℕ) → Bool
devices_are_good names =
    nat_le 1 (length names) && nat_le (length names) 16 && list_all is_name names && are_distinct names
