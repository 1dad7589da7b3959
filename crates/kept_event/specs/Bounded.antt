-- The numbers, keys, values and code of an event are of their types: here they are numbers and lists without bounds.
use Rattle.std.specs.Prelude.{ℕ, ◌^◌, ◌<◌, ◌≤◌, ⊤, List, length, IfSome}
use Rattle.bt_insn.specs.Grammar.{ReadsAs}
use Rattle.bt_insn.specs.Spelling.{spelling}
use Rattle.bt_mapkind.specs.declared.atomic.AtomicOp.{AtomicOp}
use Rattle.bt_mapkind.specs.declared.atomic.AtomicOp.TheVariants as atomic
use Rattle.bt_mapkind.specs.declared.request.MapOp.{MapOp}
use Rattle.bt_mapkind.specs.declared.request.MapOp.TheVariants as op
use Rattle.bt_roots.specs.declared.target.Target.{Target}
use Rattle.bt_roots.specs.declared.target.Target.TheVariants as target
use Rattle.host_state.specs.declared.change.Change.{Change}
use Rattle.host_state.specs.declared.change.Change.TheVariants.{Create, Operate, Freeze, Link, Load, Pin, Unpin, Attach, Detach}
use Rattle.host_state.specs.declared.change.Origin.{Origin}
use Rattle.host_state.specs.declared.change.Origin.TheVariants.{Console, Prog}
use Rattle.bt_verify.specs.Slots.{slots}
use Rattle.bt_verify.specs.Verified.{Checked, IsVerified}
use Rattle.kept_event.specs.declared.event.KeptEvent.{KeptEvent}
use Rattle.kept_event.specs.declared.event.KeptEvent.TheVariants.{Changed, Marked, UndoneTo, UndoneLast, Redone, TakenOut, Forgot}
use Rattle.kept_event.specs.Maps.{FitsAttr, FitMaps}

abbrev pub IsId : ℕ → Type 0
IsId id = id < 2 ^ 32

-- a number of 64 bits
abbrev pub IsLong : ℕ → Type 0
IsLong n = n < 2 ^ 64

-- a key or a value
abbrev pub IsShort : List ℕ → Type 0
IsShort bytes = length bytes ≤ 260

-- verified code: its bytes read as its instructions again, and its maps are those that it names
pub record IsChecked (code : Checked) : Type 0 where
  pub verified : IsVerified code.insns code.maps (slots code.insns)
  pub reads : ReadsAs (spelling code.insns) code.insns
  pub fits : FitMaps code.maps

abbrev pub IsBoundedAtomic : AtomicOp → Type 0
IsBoundedAtomic (atomic.CompareExchange expected) = IsLong expected
IsBoundedAtomic _ = ⊤

abbrev pub IsBoundedOp : MapOp → Type 0
IsBoundedOp (op.Update key value flag) = IsShort key × IsShort value × IsLong flag
IsBoundedOp (op.Delete key) = IsShort key
IsBoundedOp (op.Push value flag) = IsShort value × IsLong flag
IsBoundedOp op.Pop = ⊤
IsBoundedOp (op.Store key offset bytes) = IsShort key × IsLong offset × IsShort bytes
IsBoundedOp (op.Atomic key offset size what operand) = IsShort key × IsLong offset × IsBoundedAtomic what × IsLong operand
IsBoundedOp (op.SetLink key id flag) = IsShort key × IsId id × IsLong flag

abbrev pub IsBoundedOrigin : Origin → Type 0
IsBoundedOrigin Console = ⊤
IsBoundedOrigin (Prog id) = IsId id

abbrev pub IsBoundedTarget : Target → Type 0
IsBoundedTarget (target.Map id) = IsId id
IsBoundedTarget (target.Prog id) = IsId id

abbrev pub IsBoundedChange : Change → Type 0
IsBoundedChange (Create id attr charge name path template) = IsId id × FitsAttr attr × IsLong charge × IfSome template IsId
IsBoundedChange (Operate origin map what) = IsBoundedOrigin origin × IsId map × IsBoundedOp what
IsBoundedChange (Freeze map) = IsId map
IsBoundedChange (Link map key id flag) = IsId map × IsShort key × IsId id × IsLong flag
IsBoundedChange (Load id code name path) = IsId id × IsChecked code
IsBoundedChange (Pin what path) = IsBoundedTarget what
IsBoundedChange (Unpin path) = ⊤
IsBoundedChange (Attach prog device overwrite) = IsId prog
IsBoundedChange (Detach device) = ⊤

abbrev pub IsBounded : KeptEvent → Type 0
IsBounded (Changed serial change) = IsLong serial × IsBoundedChange change
IsBounded (Marked name) = ⊤
IsBounded (UndoneTo name) = ⊤
IsBounded UndoneLast = ⊤
IsBounded Redone = ⊤
IsBounded (TakenOut serial own) = IsLong serial × IsLong own
IsBounded (Forgot name) = ⊤
