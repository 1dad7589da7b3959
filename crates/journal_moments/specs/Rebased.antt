-- The state as it is now becomes the base, and the undone moments stay on it.
use Rattle.std.specs.Prelude.{◌≡◌, ◌⊎◌, ℕ, List, [], length, take, drop, map as each, Some, IsTrue}
use Rattle.std.specs.FinMap as map
use Rattle.bt_objects.specs.Ids.{is_among}
use Rattle.host_state.specs.State.{HostMap, HostProg, State}
use Rattle.host_state.specs.World.{kept_state}
use Rattle.journal_model.specs.Replay.{Entry}
use Rattle.journal_model.specs.Plain.{Past, Pasts, now, newest_force}
use Rattle.journal_model.specs.Well.{Each}
use Rattle.journal_model.specs.Rebase.{is_retired_map, is_retired_prog}

-- ---- the new base
-- each of these moments begins with these changes
abbrev pub AllBegin : List Entry → List Past → Type 0
AllBegin force ms = Each (λ (m : Past). take (length force) m.force ≡ force) ms

abbrev pub shortened : List Entry → Past → Past
shortened force m = record m { force = drop (length force) m.force }

-- the state as it is now is the base, and the undone moments stay, without the changes that it has taken in
abbrev pub on_new_base : Pasts → Pasts
on_new_base p = record { base = now p; moments = []; undone = each (shortened (newest_force p.moments)) p.undone }

-- ---- objects that have retired
-- each object of a state is listed, or it has retired in the base
pub record ListsLeft (maps progs : List ℕ) (base s : State) : Type 0 where
  pub maps_listed : (id : ℕ) (m : HostMap) → map.get s.maps id ≡ Some m → IsTrue (is_among maps id) ⊎ IsTrue (is_retired_map (map.get base.maps id))
  pub progs_listed : (id : ℕ) (p : HostProg) → map.get s.progs id ≡ Some p → IsTrue (is_among progs id) ⊎ IsTrue (is_retired_prog (map.get base.progs id))

-- so it is with the base and with each moment, in force or undone
pub record ListsAllLeft (maps progs : List ℕ) (p : Pasts) : Type 0 where
  pub in_base : ListsLeft maps progs p.base p.base
  pub in_moments : Each (λ (m : Past). ListsLeft maps progs p.base m.state) p.moments
  pub in_undone : Each (λ (m : Past). ListsLeft maps progs p.base m.state) p.undone

abbrev pub kept_past : List ℕ → List ℕ → Past → Past
kept_past maps progs m = record m { state = kept_state maps progs m.state }

-- the moments, in each state the objects that are listed
abbrev pub kept_pasts : List ℕ → List ℕ → Pasts → Pasts
kept_pasts maps progs p = record {
  base = kept_state maps progs p.base;
  moments = each (kept_past maps progs) p.moments;
  undone = each (kept_past maps progs) p.undone;
}
