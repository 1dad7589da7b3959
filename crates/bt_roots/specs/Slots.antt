-- How the roots are kept: an entry for each path with room, and what is pinned there, if anything.
use Rattle.std.specs.Prelude.{ℕ, List, [], ◌∷◌, Option, map, IsTrue}
use Rattle.std.specs.FinMap as finite
use Rattle.std.specs.FinSet as set
use Rattle.bt_roots.specs.declared.target.Target.{Target}
use Rattle.bt_roots.specs.declared.device.Device.{Device}
use Rattle.bt_roots.specs.View.{Pins, Paths, RootsView, devices_are_good}
use Rattle.bt_roots.specs.Exchange.{put_at}

abbrev pub Slots : Type 0
Slots = List (List ℕ × Option Target)

abbrev pub pins_of : Slots → Pins
pins_of [] = finite.empty
pins_of (slot ∷ slots) = put_at (pins_of slots) slot.0 slot.1

abbrev pub room_of : Slots → Paths
room_of slots = set.from_list (map (λ slot. slot.0) slots)

-- what the entries and the devices are seen as
unfoldable pub roots_view : Slots → List Device → RootsView
roots_view slots devices = record { pins = pins_of slots; devices = devices; room = room_of slots }

-- the devices have good names
abbrev pub HasGoodDevices : List Device → Type 0
HasGoodDevices devices = IsTrue (devices_are_good (map (λ device. device.name) devices))
