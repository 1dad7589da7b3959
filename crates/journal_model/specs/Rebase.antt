-- A new base: the state after the first moments becomes it, and the later moments stay.
use Rattle.std.specs.Prelude.{ℕ, ◌-◌, Bool, false, not, List, [], ◌∷◌, ◌++◌, length, take, drop, reverse, map as each, if◌then◌else◌, Option, Some, None}
use Rattle.std.specs.FinMap as map
use Rattle.host_state.specs.State.{HostMap, HostProg, State}
use Rattle.journal_model.specs.Replay.{Entry}
use Rattle.journal_model.specs.Force.{is_in_force}
use Rattle.journal_model.specs.Plain.{Past, Pasts, now, newest_force, cut}

-- ---- objects that have retired
abbrev pub is_retired_map : Option HostMap → Bool
is_retired_map None = false
is_retired_map (Some m) = not m.live

abbrev pub is_retired_prog : Option HostProg → Bool
is_retired_prog None = false
is_retired_prog (Some p) = not p.live

-- a state without the objects that have retired in a base
abbrev pub without_retired : State → State → State
without_retired base s = record s {
  maps = map.retain_keys s.maps (λ id. not (is_retired_map (map.get base.maps id)));
  progs = map.retain_keys s.progs (λ id. not (is_retired_prog (map.get base.progs id)));
}

-- ---- the new base
-- a later moment on a new base: the changes of the base are no longer in its list, nor what has retired there in its state
abbrev pub based_on : State → List Entry → Past → Past
based_on base force m = record m { force = drop (length force) m.force; state = without_retired base m.state }

-- the newest moment's state becomes the base, and the undone moments stay
abbrev pub rebased : Pasts → Pasts
rebased p = record {
  base = without_retired (now p) (now p);
  moments = [];
  undone = each (based_on (now p) (newest_force p.moments)) p.undone;
}

-- the first so many undone moments come back
abbrev pub forth_by : ℕ → Pasts → Pasts
forth_by count p = record { base = p.base; moments = reverse (take count p.undone) ++ p.moments; undone = drop count p.undone }

-- the state after so many moments becomes the base, and the later moments stay, in force or undone
abbrev pub advanced : ℕ → Pasts → Pasts
advanced count p = forth_by (length p.moments - count) (rebased (cut count p))

-- ---- what forbids it
abbrev pub or_else : Option ℕ → Option ℕ → Option ℕ
or_else None other = other
or_else (Some serial) other = Some serial

-- the serial of a moment that took one of these changes out
abbrev pub taken_from : List Entry → ℕ → Option ℕ → Option ℕ
taken_from force serial None = None
taken_from force serial (Some out) = if is_in_force out force then Some serial else None

-- the serial of the first of these moments that did
abbrev pub first_taken_from : List Entry → List Past → Option ℕ
first_taken_from force [] = None
first_taken_from force (m ∷ ms) = or_else (taken_from force m.serial m.out) (first_taken_from force ms)

-- the first moment later than so many, in force or undone, that took out a change from before
abbrev pub still_taken_out : ℕ → Pasts → Option ℕ
still_taken_out count p = let q = cut count p in first_taken_from (newest_force q.moments) q.undone
