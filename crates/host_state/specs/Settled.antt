-- At the end of each change every live object that is not reachable from a pin or a device retires.
use Rattle.std.specs.Prelude.{◌≡◌, ℕ, Bool, false, ◌&&◌, not, List, [], ◌++◌, Option, Some, None, IsTrue, if◌then◌else◌, map as each}
use Rattle.std.specs.List.{list_any, filter_map, flat_map}
use Rattle.std.specs.FinMap as map
use Rattle.host_state.specs.Prelude.{MapType, Contents, Target, Map, Prog, Links, mapped, holds_progs}
use Rattle.bt_mapkind.specs.Contents.{Slots, Links as LinksByKey}
use Rattle.bt_roots.specs.Live.{is_live, is_same}
use Rattle.host_state.specs.State.{HostMap, HostProg, State}

-- ---- links: from a program to the maps that it names, from an outer map to its inner maps, from a program array to its
-- programs

-- the ids that stand in contents
abbrev pub ids_in : Contents → List ℕ
ids_in (Slots slots) = filter_map (λ (slot : Option ℕ). slot) slots
ids_in (LinksByKey m) = map.values m
ids_in _ = []

-- what an id in a map of this type names
abbrev pub named_in : MapType → ℕ → Target
named_in kind id = if holds_progs kind then Prog id else Map id

abbrev pub links_of_map : ℕ × HostMap → Links
links_of_map e = each (λ id. (Map e.0, named_in e.1.attr.kind id)) (ids_in e.1.contents)

-- the ids of the maps that a program names
abbrev pub maps_named : HostProg → List ℕ
maps_named p = each (λ m. m.0) p.code.maps

abbrev pub links_of_prog : ℕ × HostProg → Links
links_of_prog e = each (λ id. (Prog e.0, Map id)) (maps_named e.1)

abbrev pub links_of : State → Links
links_of s = flat_map links_of_prog (map.entries s.progs) ++ flat_map links_of_map (map.entries s.maps)

-- ---- what is reached, and what is live
-- whether an object is reachable in a state
abbrev pub is_reached : State → Target → Bool
is_reached s target = is_live s.pins s.devices (links_of s) target

-- each live object that is not reachable retires, and nothing else changes
unfoldable pub settle : State → State
settle s = record s {
  maps = mapped (λ id (m : HostMap). record m { live = m.live && is_reached s (Map id) }) s.maps;
  progs = mapped (λ id (p : HostProg). record p { live = p.live && is_reached s (Prog id) }) s.progs;
}

abbrev pub is_live_map : Option HostMap → Bool
is_live_map None = false
is_live_map (Some m) = m.live

abbrev pub is_live_prog : Option HostProg → Bool
is_live_prog None = false
is_live_prog (Some p) = p.live

-- whether an object is there and live
abbrev pub is_live_in : State → Target → Bool
is_live_in s (Map id) = is_live_map (map.get s.maps id)
is_live_in s (Prog id) = is_live_prog (map.get s.progs id)

-- each live object is reachable, and each that is reachable is there and live
pub record IsSettled (s : State) : Type 0 where
  pub maps : (id : ℕ) (m : HostMap) → map.get s.maps id ≡ Some m → IsTrue m.live → IsTrue (is_reached s (Map id))
  pub progs : (id : ℕ) (p : HostProg) → map.get s.progs id ≡ Some p → IsTrue p.live → IsTrue (is_reached s (Prog id))
  pub only : (target : Target) → IsTrue (is_reached s target) → IsTrue (is_live_in s target)

-- ---- the objects that a change retires, as a list
abbrev pub is_listed : List Target → Target → Bool
is_listed targets target = list_any (is_same target) targets

-- the objects that are listed are live, or not, and the others are as they were
unfoldable pub revived : State → List Target → Bool → State
revived s targets live = record s {
  maps = mapped (λ id (m : HostMap). record m { live = if is_listed targets (Map id) then live else m.live }) s.maps;
  progs = mapped (λ id (p : HostProg). record p { live = if is_listed targets (Prog id) then live else p.live }) s.progs;
}

-- just the live objects that are not reachable are listed
abbrev pub ListsRetired : State → List Target → Type 0
ListsRetired s targets = (target : Target) → is_listed targets target ≡ is_live_in s target && not (is_reached s target)
