-- The event of a row. Its code is given apart, as it is read from the bytes of the row.
use Rattle.std.specs.Prelude.{ℕ, ◌^◌, true, false, ◌==◌, not, if◌then◌else◌, nat_lt, nat_le, List, [], ◌∷◌, length, find, Option, Some, None, unwrap_or}
use Rattle.std.specs.Option.{option_map}
use Rattle.bt_insn.specs.Reading.{◌>>=◌}
use Rattle.bt_mapkind.specs.declared.atomic.AtomicOp.{AtomicOp}
use Rattle.bt_mapkind.specs.declared.atomic.AtomicOp.TheVariants as atomic
use Rattle.bt_mapkind.specs.declared.atomic.AtomicSize.{AtomicSize}
use Rattle.bt_mapkind.specs.declared.atomic.AtomicSize.TheVariants.{Word, DoubleWord}
use Rattle.bt_mapkind.specs.Atomic.{size_in_bytes}
use Rattle.bt_mapkind.specs.declared.attr.MapAttr.{MapAttr}
use Rattle.bt_mapkind.specs.declared.request.MapOp.{MapOp}
use Rattle.bt_mapkind.specs.declared.request.MapOp.TheVariants as op
use Rattle.bt_roots.specs.declared.target.Target.{Target}
use Rattle.bt_roots.specs.declared.target.Target.TheVariants as target
use Rattle.host_state.specs.declared.change.Change.{Change}
use Rattle.host_state.specs.declared.change.Change.TheVariants.{Create, Operate, Freeze, Link, Load, Pin, Unpin, Attach, Detach}
use Rattle.host_state.specs.declared.change.Origin.{Origin}
use Rattle.host_state.specs.declared.change.Origin.TheVariants.{Console, Prog}
use Rattle.bt_verify.specs.Verified.{Checked}
use Rattle.kept_event.specs.declared.event.KeptEvent.{KeptEvent}
use Rattle.kept_event.specs.declared.event.KeptEvent.TheVariants.{Changed, Marked, UndoneTo, UndoneLast, Redone, TakenOut, Forgot}
use Rattle.kept_event.specs.declared.row.Row.{Row}
use Rattle.kept_event.specs.declared.verb.Verb.{Verb}
use Rattle.kept_event.specs.declared.verb.Verb.TheVariants as verb
use Rattle.kept_event.specs.Row.{op_number}

-- ---- a column
-- a number of 32 bits
unfoldable pub small : ℕ → Option ℕ
small n = if nat_lt n (2 ^ 32) then Some n else None

abbrev pub id_in : Option ℕ → Option ℕ
id_in column = column >>= small

-- the bytes of a key or a value
unfoldable pub short : List ℕ → Option (List ℕ)
short bytes = if nat_le (length bytes) 260 then Some bytes else None

abbrev pub bytes_in : Option (List ℕ) → Option (List ℕ)
bytes_in column = column >>= short

-- ---- an operation
abbrev pub size_of : ℕ → Option AtomicSize
size_of bytes = find (λ size. bytes == size_in_bytes size) (Word ∷ DoubleWord ∷ [])

abbrev pub atomic_ops : ℕ → List AtomicOp
atomic_ops expected =
    atomic.Add false ∷ atomic.Add true ∷ atomic.Or false ∷ atomic.Or true ∷ atomic.And false ∷ atomic.And true ∷ atomic.Xor false ∷ atomic.Xor true ∷ atomic.Exchange ∷ atomic.CompareExchange expected ∷ []

-- the atomic operation of a number; only one compares
abbrev pub atomic_of : ℕ → ℕ → Option AtomicOp
atomic_of number expected = find (λ what. number == op_number what) (atomic_ops expected)

abbrev pub update_in : Row → Option MapOp
update_in row = do
  key ← bytes_in row.key
  value ← bytes_in row.value
  flag ← row.flag
  Some (op.Update key value flag)

abbrev pub push_in : Row → Option MapOp
push_in row = do
  value ← bytes_in row.value
  flag ← row.flag
  Some (op.Push value flag)

abbrev pub store_in : Row → Option MapOp
store_in row = do
  key ← bytes_in row.key
  offset ← row.at
  bytes ← bytes_in row.value
  Some (op.Store key offset bytes)

abbrev pub atomic_in : Row → Option MapOp
atomic_in row = do
  key ← bytes_in row.key
  offset ← row.at
  bytes ← row.size
  size ← size_of bytes
  number ← row.op
  what ← atomic_of number (unwrap_or row.flag 0)
  operand ← row.target
  Some (op.Atomic key offset size what operand)

abbrev pub set_link_in : Row → Option MapOp
set_link_in row = do
  key ← bytes_in row.key
  id ← id_in row.target
  flag ← row.flag
  Some (op.SetLink key id flag)

abbrev pub op_by : Verb → Row → Option MapOp
op_by verb.Update row = update_in row
op_by verb.Delete row = option_map (λ key. op.Delete key) (bytes_in row.key)
op_by verb.Push row = push_in row
op_by verb.Pop row = Some op.Pop
op_by verb.Store row = store_in row
op_by verb.Atomic row = atomic_in row
op_by verb.SetLink row = set_link_in row
op_by _ row = None

-- ---- a change
abbrev pub origin_in : Option ℕ → Option Origin
origin_in None = Some Console
origin_in (Some n) = option_map (λ id. Prog id) (small n)

abbrev pub operate_in : Row → Option Change
operate_in row = do
  origin ← origin_in row.prog
  map ← id_in row.map
  what ← op_by row.verb row
  Some (Operate origin map what)

abbrev pub template_in : Option ℕ → Option (Option ℕ)
template_in None = Some None
template_in (Some n) = option_map (λ id. Some id) (small n)

abbrev pub attr_in : Row → Option MapAttr
attr_in row = do
  kind ← row.kind
  key_size ← id_in row.key_size
  value_size ← id_in row.value_size
  max_entries ← id_in row.entries
  flags ← id_in row.flags
  Some (record { kind = kind; key_size = key_size; value_size = value_size; max_entries = max_entries; flags = flags })

abbrev pub create_in : Row → Option (List ℕ) → Option (List ℕ) → Option Change
create_in row name_in path_in = do
  id ← id_in row.map
  attr ← attr_in row
  charge ← row.size
  template ← template_in row.target
  name ← name_in
  path ← path_in
  Some (Create id attr charge name path template)

abbrev pub load_in : Row → Option (List ℕ) → Option (List ℕ) → Option Checked → Option Change
load_in row name_in path_in found = do
  id ← id_in row.target
  code ← found
  name ← name_in
  path ← path_in
  Some (Load id code name path)

abbrev pub link_in : Row → Option Change
link_in row = do
  map ← id_in row.map
  key ← bytes_in row.key
  id ← id_in row.target
  flag ← row.flag
  Some (Link map key id flag)

abbrev pub target_by : Option ℕ → Option ℕ → Option Target
target_by (Some n) column = option_map (λ id. target.Map id) (small n)
target_by None column = option_map (λ id. target.Prog id) (id_in column)

abbrev pub pin_in : Row → Option (List ℕ) → Option Change
pin_in row path_in = do
  what ← target_by row.map row.target
  path ← path_in
  Some (Pin what path)

abbrev pub attach_in : Row → Option (List ℕ) → Option Change
attach_in row name_in = do
  prog ← id_in row.target
  device ← name_in
  flag ← row.flag
  Some (Attach prog device (not (flag == 0)))

abbrev pub change_by : Verb → Row → Option (List ℕ) → Option (List ℕ) → Option Checked → Option Change
change_by verb.Create row name path code = create_in row name path
change_by verb.Load row name path code = load_in row name path code
change_by verb.Link row name path code = link_in row
change_by verb.Freeze row name path code = option_map (λ map. Freeze map) (id_in row.map)
change_by verb.Pin row name path code = pin_in row path
change_by verb.Unpin row name path code = option_map (λ at. Unpin at) path
change_by verb.Attach row name path code = attach_in row name
change_by verb.Detach row name path code = option_map (λ device. Detach device) name
change_by _ row name path code = operate_in row

-- ---- an event
abbrev pub changed_in : Row → Option (List ℕ) → Option (List ℕ) → Option Checked → Option KeptEvent
changed_in row name path code = do
  serial ← row.serial
  change ← change_by row.verb row name path code
  Some (Changed serial change)

abbrev pub undone : Option (List ℕ) → KeptEvent
undone (Some name) = UndoneTo name
undone None = UndoneLast

abbrev pub taken_out_in : Row → Option KeptEvent
taken_out_in row = do
  serial ← row.target
  own ← row.serial
  Some (TakenOut serial own)

abbrev pub event_by : Verb → Row → Option (List ℕ) → Option (List ℕ) → Option Checked → Option KeptEvent
event_by verb.Mark row name path code = option_map (λ mark. Marked mark) name
event_by verb.Undo row name path code = Some (undone name)
event_by verb.Redo row name path code = Some Redone
event_by verb.Without row name path code = taken_out_in row
event_by verb.Forget row name path code = option_map (λ mark. Forgot mark) name
event_by _ row name path code = changed_in row name path code

-- the event of a row with this code
abbrev pub read_with : Option Checked → Row → Option KeptEvent
read_with code row = event_by row.verb row row.name row.path code

-- the code of an event, if it is a load
abbrev pub code_of : KeptEvent → Option Checked
code_of (Changed serial (Load id code name path)) = Some code
code_of _ = None
