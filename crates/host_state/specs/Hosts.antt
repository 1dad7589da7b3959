-- How a world keeps its maps and its programs: the boxes by id with an entry for each of them, which is empty while its
-- box waits, and an entry for each program, which is empty while its load is undone.
use Rattle.std.specs.Prelude.{◌≡◌, ℕ, Bool, if◌then◌else◌, List, Option, Some, None, is_some, IsTrue}
use Rattle.std.proofs.Common.{cond}
use Rattle.std.specs.Option.{option_map, option_flatten, option_zip}
use Rattle.std.specs.FinMap as map
use Rattle.std.specs.FinSet as set
use Rattle.std.specs.Map.{keys_of, lookup}
use Rattle.std.specs.BTreeMap.{is_at}
use Rattle.std.specs.Ordering.{nat_cmp}
use Rattle.host_state.specs.Prelude.{good, AreBounded, Seen, IsWell, RootsView, Target, Map, Prog, ById, mapped}
use Rattle.host_state.specs.declared.entry.MapEntry.{MapEntry}
use Rattle.host_state.specs.State.{HostMap, HostProg, State}
use Rattle.host_state.specs.Settled.{IsSettled, is_listed}
use Rattle.host_state.specs.Act.{if_live}
use Rattle.host_state.specs.World.{Ready, WorldView}
use Rattle.bt_mapkind.specs.Seen.{IsFresh}
use Rattle.bt_objects.specs.Boxes.{make_of}
use Rattle.host_state.specs.declared.hosts.Entries.{Entries as Tables}
use Rattle.bt_objects.specs.ById.{laid}
use Rattle.host_state.specs.State.{hosted}
use Rattle.host_state.specs.Settled.{is_live_prog}
use Rattle.host_state.specs.Ask.{if_live_prog}

-- ---- tables of entries
abbrev pub Table : Type 0 → Type 0
Table X = List (ℕ × Option X)

pub record Entries : Type 0 where
  pub maps : Table MapEntry
  pub progs : Table HostProg

-- what the tables of a world hold
abbrev pub entries_in : Tables → Entries
entries_in tables = record { maps = tables.maps.entries; progs = tables.progs.entries }

-- what stands under an id: nothing, an empty entry, or one that holds something
abbrev pub found_in : {X : Type 0} → Table X → ℕ → Option (Option X)
found_in entries id = lookup (is_at (nat_cmp id)) entries

abbrev pub held : {X : Type 0} → Option (Option X) → Option X
held found = option_flatten found

abbrev pub entry_at : Entries → ℕ → Option (Option MapEntry)
entry_at entries id = found_in entries.maps id

abbrev pub prog_at : Entries → ℕ → Option (Option HostProg)
prog_at entries id = found_in entries.progs id

-- this stands under the id, and the others stay
abbrev pub Puts : {X : Type 0} → Table X → Table X → ℕ → Option (Option X) → Type 0
Puts old new id found = (q : ℕ) → found_in new q ≡ cond (is_at (nat_cmp id) q) found (found_in old q)

abbrev pub PutsEntry : Entries → Entries → ℕ → Option (Option MapEntry) → Type 0
PutsEntry old new id entry = Puts old.maps new.maps id entry × (new.progs ≡ old.progs)

abbrev pub PutsProg : Entries → Entries → ℕ → Option (Option HostProg) → Type 0
PutsProg old new id prog = Puts old.progs new.progs id prog × (new.maps ≡ old.maps)

-- what an entry holds is made another
abbrev pub held_as : {X : Type 0} → (X → X) → Option (Option X) → Option (Option X)
held_as f found = option_map (option_map f) found

-- the objects that are listed are live, or not, and the others stay
pub record RevivesEntries (old new : Entries) (targets : List Target) (live : Bool) : Type 0 where
  pub maps : (q : ℕ) → entry_at new q ≡ cond (is_listed targets (Map q)) (held_as (λ e. record e { live = live }) (entry_at old q)) (entry_at old q)
  pub progs : (q : ℕ) → prog_at new q ≡ cond (is_listed targets (Prog q)) (held_as (λ p. record p { live = live }) (prog_at old q)) (prog_at old q)

-- whether the console may write a live map no more
abbrev pub frozen_of : Option MapEntry → Option Bool
frozen_of None = None
frozen_of (Some entry) = if entry.live then Some entry.frozen else None

-- whether an object is there and live
abbrev pub live_target_in : Entries → Target → Bool
live_target_in entries (Map id) = is_some (frozen_of (held (entry_at entries id)))
live_target_in entries (Prog id) = is_live_prog (held (prog_at entries id))

-- ---- the state that boxes and entries are
-- the map of a box and an entry, if both are there
abbrev pub host_of : Option Seen → Option MapEntry → Option HostMap
host_of box entry = option_map (λ both. hosted (make_of both.0) both.0.contents both.1) (option_zip box entry)

abbrev pub hosts_of : ById Seen → Entries → ById HostMap
hosts_of boxes entries = laid (λ id entry. host_of (map.get boxes id) entry) entries.maps

abbrev pub progs_of : Entries → ById HostProg
progs_of entries = laid (λ id prog. prog) entries.progs

abbrev pub state_of : ById Seen → Entries → RootsView → State
state_of boxes entries roots = record {
  maps = hosts_of boxes entries;
  progs = progs_of entries;
  pins = roots.pins;
  devices = roots.devices;
}

-- the live map of an id
abbrev pub live_in : ById Seen → Entries → ℕ → Option HostMap
live_in boxes entries id = if_live (host_of (map.get boxes id) (held (entry_at entries id)))

-- the live program of an id
abbrev pub live_prog_at : Entries → ℕ → Option HostProg
live_prog_at entries id = if_live_prog (held (prog_at entries id))

-- what stands ready: each program that has an entry has room
abbrev pub ready_of : ById Seen → Entries → RootsView → Ready
ready_of boxes entries roots = record {
  makes = mapped (λ id s. make_of s) boxes;
  progs = set.from_list (keys_of entries.progs);
  room = roots.room;
}

abbrev pub view_of : ById Seen → Entries → RootsView → ℕ → WorldView
view_of boxes entries roots work = record { state = state_of boxes entries roots; ready = ready_of boxes entries roots; work = work }

-- ---- what boxes and entries keep
-- each box has an entry
abbrev pub SameIds : ById Seen → Entries → Type 0
SameIds boxes entries = (id : ℕ) → is_some (entry_at entries id) ≡ is_some (map.get boxes id)

-- each box has an entry; it holds what such a map can hold, made of bytes and of ids of 32 bits, and while it waits what
-- a new one holds; and each map has good attributes
pub record IsBuilt (boxes : ById Seen) (entries : Entries) : Type 0 where
  pub same_ids : SameIds boxes entries
  pub fresh : (id : ℕ) (s : Seen) → entry_at entries id ≡ Some None → map.get boxes id ≡ Some s → IsFresh s
  pub well : (id : ℕ) (s : Seen) → map.get boxes id ≡ Some s → IsWell s.attr s.contents
  pub bounded : (id : ℕ) (s : Seen) → map.get boxes id ≡ Some s → AreBounded s.contents
  pub good_attr : (id : ℕ) (entry : MapEntry) (s : Seen) → entry_at entries id ≡ Some (Some entry) → map.get boxes id ≡ Some s → IsTrue (good s.attr)

-- each map of a state, live or retired, holds what such a map can hold, made of bytes and of ids of 32 bits, and has good
-- attributes
pub record HoldsWell (s : State) : Type 0 where
  pub well : (id : ℕ) (m : HostMap) → map.get s.maps id ≡ Some m → IsWell m.attr m.contents
  pub bounded : (id : ℕ) (m : HostMap) → map.get s.maps id ≡ Some m → AreBounded m.contents
  pub attributes : (id : ℕ) (m : HostMap) → map.get s.maps id ≡ Some m → IsTrue (good m.attr)

-- and the state is settled
pub record IsSound (boxes : ById Seen) (entries : Entries) (roots : RootsView) : Type 0 where
  pub built : IsBuilt boxes entries
  pub settled : IsSettled (state_of boxes entries roots)
