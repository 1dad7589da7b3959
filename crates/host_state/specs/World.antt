-- What contracts see of a world: its state, what stands ready for exchanges, and the units of work done.
use Rattle.std.specs.Prelude.{◌≡◌, ℕ, true, List, Some, Ok, sum_by, IsTrue, map as each}
use Rattle.std.specs.FinMap as map
use Rattle.std.specs.FinSet as set
use Rattle.std.specs.Ordering.{nat_cmp}
use Rattle.host_state.specs.Prelude.{Make, Paths, ById, mapped}
use Rattle.bt_objects.specs.Ids.{is_among}
use Rattle.bt_roots.specs.View.{free_device}
use Rattle.host_state.specs.declared.change.Change.{Change}
use Rattle.host_state.specs.declared.reply.Reply.{Reply}
use Rattle.host_state.specs.State.{HostMap, HostProg, State}
use Rattle.host_state.specs.Settled.{IsSettled}
use Rattle.host_state.specs.Act.{act}

-- a set of ids
abbrev pub Ids : Type 0
Ids = set.FinSet nat_cmp

-- the boxes by id with what they were made with, those of maps in the state and those that wait; the ids with room for a
-- program; and the paths with room for a pin
pub record Ready : Type 0 where
  pub makes : ById Make
  pub progs : Ids
  pub room : Paths

pub record WorldView : Type 0 where
  pub state : State
  pub ready : Ready
  pub work : ℕ

-- a host with these devices and nothing else
abbrev pub fresh_state : List (List ℕ) → State
fresh_state names = record { maps = map.empty; progs = map.empty; pins = map.empty; devices = each free_device names }

abbrev pub fresh_world : List (List ℕ) → WorldView
fresh_world names = record { state = fresh_state names; ready = record { makes = map.empty; progs = set.empty; room = set.empty }; work = 0 }

-- the sum of the charges of the boxes
abbrev pub charged_of : ById Make → ℕ
charged_of makes = sum_by (λ e. e.1.charge) (map.entries makes)

-- the boxes are the same, and the ids and the paths with room are no fewer
pub record SameBoxes (old new : Ready) : Type 0 where
  pub makes : new.makes ≡ old.makes
  pub progs : (id : ℕ) → set.contains old.progs id ≡ true → set.contains new.progs id ≡ true
  pub room : (path : List ℕ) → set.contains old.room path ≡ true → set.contains new.room path ≡ true

-- a state without the objects that are not listed
abbrev pub kept_state : List ℕ → List ℕ → State → State
kept_state maps progs s = record s { maps = map.retain_keys s.maps (is_among maps); progs = map.retain_keys s.progs (is_among progs) }

abbrev pub kept_ready : List ℕ → List ℕ → Ready → Ready
kept_ready maps progs ready = record ready {
  makes = map.retain_keys ready.makes (is_among maps);
  progs = set.retain ready.progs (is_among progs);
}

-- each live object is listed
pub record ListsLive (maps progs : List ℕ) (s : State) : Type 0 where
  pub maps_listed : (id : ℕ) (m : HostMap) → map.get s.maps id ≡ Some m → IsTrue m.live → IsTrue (is_among maps id)
  pub progs_listed : (id : ℕ) (p : HostProg) → map.get s.progs id ≡ Some p → IsTrue p.live → IsTrue (is_among progs id)

-- each object is listed, live or retired
pub record ListsAll (maps progs : List ℕ) (s : State) : Type 0 where
  pub maps_listed : (id : ℕ) (m : HostMap) → map.get s.maps id ≡ Some m → IsTrue (is_among maps id)
  pub progs_listed : (id : ℕ) (p : HostProg) → map.get s.progs id ≡ Some p → IsTrue (is_among progs id)

-- with each live object listed before and after a change, it does the same to what is listed
abbrev pub ActsWithout : List ℕ → List ℕ → State → State → Change → Reply → Type 0
ActsWithout maps progs before after change reply =
    act before change ≡ Ok (after, reply) → IsSettled after → ListsLive maps progs before → ListsLive maps progs after
    → act (kept_state maps progs before) change ≡ Ok (kept_state maps progs after, reply)

-- the maps of a state by what their boxes were made with
abbrev pub makes_in : State → ById Make
makes_in s = mapped (λ id (m : HostMap). record { attr = m.attr; charge = m.charge }) s.maps
