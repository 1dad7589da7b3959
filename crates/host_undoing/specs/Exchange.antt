-- What an undoing means: an exchange of a part of the state with what the undoing holds; and how it joins the state before a
-- change with the state after it.
use Rattle.std.specs.Prelude.{◌≡◌, ◌≤◌, ◌||◌, ℕ, true, not, IsTrue, List, [], Option, Some, None}
use Rattle.std.specs.Option.{option_map, option_map_or}
use Rattle.std.specs.FinMap as map
use Rattle.std.specs.FinSet as set
use Rattle.host_state.specs.Prelude.{MapAttr, good, AreBounded, Contents as Held, Seen, Make, RootBack, Target, Map, Prog, RootsView, Paths, ById}
use Rattle.host_undoing.specs.Prelude.{MapEntry, HostMap, HostProg, State, made, IsSettled, is_live_in, is_listed, Ready}
use Rattle.bt_mapkind.specs.Exchange.{exchange_fits, exchanged}
use Rattle.bt_mapkind.specs.Kept.{Kept, room_of}
use Rattle.bt_mapkind.specs.Answers.{IsTurned}
use Rattle.bt_roots.specs.Exchange.{exchange_fits as pin_fits, exchanged as roots_exchanged}
use Rattle.bt_objects.specs.ById.{put_at}
use Rattle.host_state.specs.State.{entry_of}
use Rattle.host_state.specs.Settled.{revived}
use Rattle.host_state.specs.Act.{with_contents, with_frozen}
use Rattle.host_state.specs.World.{ListsLive, kept_state}
use Rattle.host_undoing.specs.declared.plain.PlainUndoing.{PlainUndoing}
use Rattle.host_undoing.specs.declared.undoing.Part.{Part}
use Rattle.host_undoing.specs.declared.undoing.Part.TheVariants.{Contents, Frozen, Presence, Program, Pinned}
use Rattle.host_undoing.specs.declared.undoing.Undoing.{Undoing}

-- one in few bytes: an exchange of what a map holds, and nothing retired
abbrev pub undoing_of : PlainUndoing → Undoing
undoing_of p = record { part = Contents p.map p.kept; retired = record { targets = []; live = p.live } }

-- ---- the state that an exchange leaves, and what the undoing then holds
-- pins and devices, with these paths having room
abbrev pub roots_of : State → Paths → RootsView
roots_of s room = record { pins = s.pins; devices = s.devices; room = room }

abbrev pub roots_turned : State → RootBack → RootsView × RootBack
roots_turned s pin = roots_exchanged (roots_of s set.empty) pin

abbrev pub with_roots : State → RootBack → State
with_roots s pin = record s { pins = (roots_turned s pin).0.pins; devices = (roots_turned s pin).0.devices }

-- the state with its part exchanged, as far as what is exchanged is there
unfoldable pub part_turned : State → Part → State
part_turned s (Contents id k) = option_map_or (λ m. with_contents s id m (exchanged m.contents k.back).0) (map.get s.maps id) s
part_turned s (Frozen id frozen) = option_map_or (λ m. with_frozen s id m frozen) (map.get s.maps id) s
part_turned s (Presence id make entry pin) =
    record (with_roots s pin) { maps = put_at s.maps id (option_map (made make) entry) }
part_turned s (Program id prog pin) = record (with_roots s pin) { progs = put_at s.progs id prog }
part_turned s (Pinned pin) = with_roots s pin

-- what then stands for the part
unfoldable pub part_back : State → Part → Part
part_back s (Contents id k) =
    Contents id (option_map_or (λ m. record k { back = (exchanged m.contents k.back).1 }) (map.get s.maps id) k)
part_back s (Frozen id frozen) = Frozen id (option_map_or (λ m. m.frozen) (map.get s.maps id) frozen)
part_back s (Presence id make entry pin) =
    Presence id make (option_map entry_of (map.get s.maps id)) (roots_turned s pin).1
part_back s (Program id prog pin) = Program id (map.get s.progs id) (roots_turned s pin).1
part_back s (Pinned pin) = Pinned (roots_turned s pin).1

-- the state that turning leaves: a part is exchanged, and the retired are live again, or retire
unfoldable pub turned : State → Undoing → State
turned s u = revived (part_turned s u.part) u.retired.targets u.retired.live

-- what the undoing then holds
unfoldable pub back_of : State → Undoing → Undoing
back_of s u = record { part = part_back s u.part; retired = record u.retired { live = not u.retired.live } }

-- ---- what fits
-- an exchange fits these contents, and what is reserved holds any exchange of them
pub record FitsIn (a : MapAttr) (contents : Held) (k : Kept) : Type 0 where
  pub fits : IsTrue (exchange_fits a contents k.back)
  pub room : room_of a ≤ k.room

-- the map that is to go is there, as it was made; the one that is to come has good attributes, it is not there, and its
-- box waits
abbrev pub IsTurnable : Ready → State → ℕ → Make → Option MapEntry → Type 0
IsTurnable ready s id make None = (entry : MapEntry) × (map.get s.maps id ≡ Some (made make entry))
IsTurnable ready s id make (Some entry) = IsTrue (good make.attr) × (map.get s.maps id ≡ None) × (map.get ready.makes id ≡ Some make)

-- the program that is to go is there; for the one that is to come there is room, and it is not there
abbrev pub IsLoadable : Ready → State → ℕ → Option HostProg → Type 0
IsLoadable ready s id None = (prog : HostProg) × (map.get s.progs id ≡ Some prog)
IsLoadable ready s id (Some prog) = (map.get s.progs id ≡ None) × (set.contains ready.progs id ≡ true)

abbrev pub FitsPlace : Ready → State → Part → Type 0
FitsPlace ready s (Contents id k) = (m : HostMap) × (map.get s.maps id ≡ Some m) × FitsIn m.attr m.contents k
FitsPlace ready s (Frozen id frozen) = (m : HostMap) × (map.get s.maps id ≡ Some m)
FitsPlace ready s (Presence id make entry pin) =
    IsTurnable ready s id make entry × IsTrue (pin_fits (roots_of s ready.room) pin)
FitsPlace ready s (Program id prog pin) =
    IsLoadable ready s id prog × IsTrue (pin_fits (roots_of s ready.room) pin)
FitsPlace ready s (Pinned pin) = IsTrue (pin_fits (roots_of s ready.room) pin)

-- an exchange can be turned: what it needs is there, and the state that it leaves is settled
pub record Fits (ready : Ready) (s : State) (u : Undoing) : Type 0 where
  pub place : FitsPlace ready s u.part
  pub settled : IsSettled (turned s u)

-- the box and what is kept have changed places, and what was bounded is bounded still
pub record IsBoxTurned (old : ById Seen) (id : ℕ) (k : Kept) (new : ById Seen) (left : Kept) : Type 0 where
  pub before : Seen
  pub after : Seen
  pub there : map.get old id ≡ Some before
  pub turned : IsTurned before k.back after left.back
  pub boxes : new ≡ map.insert old id after
  pub room : left.room ≡ k.room
  pub bounded : AreBounded before.contents → AreBounded after.contents

-- ---- two states that an exchange joins
-- the object that an exchange of a part concerns; a pin alone concerns none
abbrev pub concerned : Part → Option Target
concerned (Contents id k) = Some (Map id)
concerned (Frozen id frozen) = Some (Map id)
concerned (Presence id make entry pin) = Some (Map id)
concerned (Program id prog pin) = Some (Prog id)
concerned (Pinned pin) = None

-- an exchange touches no object that is live in neither state
pub record TouchesLive (before after : State) (u : Undoing) : Type 0 where
  pub part : (target : Target) → concerned u.part ≡ Some target → IsTrue (is_live_in before target || is_live_in after target)
  pub retired : (target : Target) → IsTrue (is_listed u.retired.targets target) → IsTrue (is_live_in before target || is_live_in after target)

-- `back` leads from after to before, and its other face `forth` from before to after
pub record Joins (ready : Ready) (before after : State) (back forth : Undoing) : Type 0 where
  pub back_fits : Fits ready after back
  pub back_state : turned after back ≡ before
  pub back_face : back_of after back ≡ forth
  pub forth_fits : Fits ready before forth
  pub forth_state : turned before forth ≡ after
  pub forth_face : back_of before forth ≡ back
  pub touches : TouchesLive before after back

-- when objects are dropped, an undoing of two states in which each live object is listed joins what is left of them
abbrev pub JoinsWithout : List ℕ → List ℕ → Ready → Ready → Type 0
JoinsWithout maps progs old new =
    (before after : State) (back forth : Undoing) → Joins old before after back forth → ListsLive maps progs before → ListsLive maps progs after
    → Joins new (kept_state maps progs before) (kept_state maps progs after) back forth
