-- A later change that is apart from an earlier one does alike without it.
use Rattle.std.specs.Option.{option_map_or}
use Rattle.std.specs.Prelude.{◌≡◌, ⊤, ℕ, Bool, true, false, not, List, [], Ok}
use Rattle.bt_mapkind.specs.declared.request.MapOp.{MapOp}
use Rattle.bt_mapkind.specs.Kept.{Kept, is_keyed, IsByteKey}
use Rattle.map_laws.specs.Place.{is_put, is_delete}
use Rattle.bt_roots.specs.declared.target.Target.{Target}
use Rattle.host_state.specs.declared.change.Change.{Change}
use Rattle.host_state.specs.declared.change.Change.TheVariants.{Operate}
use Rattle.host_state.specs.declared.change.Origin.{Origin}
use Rattle.host_state.specs.declared.reply.Reply.{Reply}
use Rattle.host_state.specs.State.{State}
use Rattle.host_state.specs.Settled.{IsSettled}
use Rattle.host_state.specs.Act.{act}
use Rattle.host_state.specs.World.{Ready}
use Rattle.host_undoing.specs.declared.undoing.Part.{Part}
use Rattle.host_undoing.specs.declared.undoing.Part.TheVariants.{Contents}
use Rattle.host_undoing.specs.declared.undoing.Undoing.{Undoing}
use Rattle.host_undoing.specs.Exchange.{turned, back_of, Fits, Joins}
use Rattle.host_undoing.specs.Answers.{IsOwn}
use Rattle.host_apart.specs.Laws.{AreWell, RetiresJust}
use Rattle.host_apart.specs.Spots.{back_of_part, is_keyed_back, are_apart}

-- the key of an exchange of one key is of bytes
abbrev pub HasByteKey : Part → Type 0
HasByteKey (Contents id k) = IsByteKey k.back
HasByteKey _ = ⊤

-- whether an undoing puts something under a key
abbrev pub puts_again : Undoing → Bool
puts_again u = option_map_or is_put (back_of_part u.part) false

-- an exchange fits a state, and this is what it would stand for then: so what it exchanges is there
pub record IsAsLeft (ready : Ready) (s : State) (u forth : Undoing) : Type 0 where
  pub fits : Fits ready s u
  pub face : back_of s u ≡ forth

-- a change is an operation on one map, of which an undoing exchanges one key
pub record IsOfKey (change : Change) (u : Undoing) : Type 0 where
  pub origin : Origin
  pub id : ℕ
  pub op : MapOp
  pub kept : Kept
  pub change_is : change ≡ Operate origin id op
  pub part_is : u.part ≡ Contents id kept
  pub keyed : is_keyed kept.back ≡ true
  pub none : u.retired.targets ≡ []

-- what does the operation again puts a value, unless it is a delete
abbrev pub PutsUnlessDeletes : MapOp → Undoing → Type 0
PutsUnlessDeletes op forth = puts_again forth ≡ not (is_delete op)

-- a change of one key of a map led to the state, what takes it back retired nothing, and does again what the change did
pub record IsFirst (t : State) (change : Change) (u : Undoing) : Type 0 where
  pub one : IsOfKey change u
  pub puts : PutsUnlessDeletes one.op (back_of t u)

-- so it is of each change whose own exchange is of one key
abbrev pub LeavesFirst : State → State → Change → Reply → Undoing → Type 0
LeavesFirst s t change reply u =
    AreWell s → IsSettled s → act s change ≡ Ok (t, reply) → IsOwn s change u.part → is_keyed_back (back_of_part u.part) ≡ true → RetiresJust s t u.retired.targets
    → IsFirst t change u

-- from s to t a later change was done, apart from that of a keyed exchange which fits s and retired nothing
pub record IsBeside (ready : Ready) (s t : State) (change : Change) (u forth : Undoing) (later : Change) (reply : Reply) (v : Undoing) : Type 0 where
  pub well : AreWell s
  pub one : IsOfKey change u
  pub bytes : HasByteKey u.part × HasByteKey v.part
  pub as_left : IsAsLeft ready s u forth
  pub acts : act s later ≡ Ok (t, reply)
  pub joins : Joins ready s t v (back_of t v)
  pub own : IsOwn s later v.part
  pub apart : are_apart change u.part later v.part ≡ true
  pub puts : PutsUnlessDeletes one.op forth

-- then it does alike without the first, which can be turned above it as below
pub record DoesAlike (ready : Ready) (s t : State) (u forth : Undoing) (later : Change) (reply : Reply) (v : Undoing) : Type 0 where
  pub as_left : IsAsLeft ready t u forth
  pub acts : act (turned s u) later ≡ Ok (turned t u, reply)
  pub joins : Joins ready (turned s u) (turned t u) v (back_of (turned t u) v)
  pub face : back_of (turned t u) v ≡ back_of t v
  pub own : IsOwn (turned s u) later v.part
  pub retires : (targets : List Target) → RetiresJust s t targets → RetiresJust (turned s u) (turned t u) targets

abbrev pub DoesAlikeBeside : Ready → State → State → Change → Undoing → Undoing → Change → Reply → Undoing → Type 0
DoesAlikeBeside ready s t change u forth later reply v = IsBeside ready s t change u forth later reply v → DoesAlike ready s t u forth later reply v
