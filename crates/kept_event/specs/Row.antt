-- The row of an event: what stands in each column of the table of events, beside its position and its time.
use Rattle.std.specs.Prelude.{ℕ, ◌+◌, Bool, if◌then◌else◌, List, Option, Some, None}
use Rattle.bt_insn.specs.Spelling.{spelling}
use Rattle.bt_mapkind.specs.Atomic.{size_in_bytes}
use Rattle.bt_mapkind.specs.declared.atomic.AtomicOp.{AtomicOp}
use Rattle.bt_mapkind.specs.declared.atomic.AtomicOp.TheVariants as atomic
use Rattle.bt_mapkind.specs.declared.attr.MapAttr.{MapAttr}
use Rattle.bt_mapkind.specs.declared.request.MapOp.{MapOp}
use Rattle.bt_mapkind.specs.declared.request.MapOp.TheVariants as op
use Rattle.bt_roots.specs.declared.target.Target.{Target}
use Rattle.bt_roots.specs.declared.target.Target.TheVariants as target
use Rattle.host_state.specs.declared.change.Change.{Change}
use Rattle.host_state.specs.declared.change.Change.TheVariants.{Create, Operate, Freeze, Link, Load, Pin, Unpin, Attach, Detach}
use Rattle.host_state.specs.declared.change.Origin.{Origin}
use Rattle.host_state.specs.declared.change.Origin.TheVariants.{Console, Prog}
use Rattle.kept_event.specs.declared.event.KeptEvent.{KeptEvent}
use Rattle.kept_event.specs.declared.event.KeptEvent.TheVariants.{Changed, Marked, UndoneTo, UndoneLast, Redone, TakenOut, Forgot}
use Rattle.kept_event.specs.declared.row.Row.{Row}
use Rattle.kept_event.specs.declared.verb.Verb.{Verb}
use Rattle.kept_event.specs.declared.verb.Verb.TheVariants as verb
use Rattle.kept_event.specs.Maps.{maps_bytes}

-- a row with its verb alone
abbrev pub bare : Verb → Row
bare v = record {
  serial = None;
  prog = None;
  verb = v;
  map = None;
  key = None;
  value = None;
  flag = None;
  at = None;
  size = None;
  op = None;
  target = None;
  name = None;
  path = None;
  kind = None;
  key_size = None;
  value_size = None;
  entries = None;
  flags = None;
  code = None;
}

-- an atomic operation by its immediate (RFC 9669, section 5.3 Atomic Operations; 0x01 is FETCH)
abbrev pub with_fetch : ℕ → Bool → ℕ
with_fetch number fetch = if fetch then number + 1 else number

abbrev pub op_number : AtomicOp → ℕ
op_number (atomic.Add fetch) = with_fetch 0x00 fetch
op_number (atomic.Or fetch) = with_fetch 0x40 fetch
op_number (atomic.And fetch) = with_fetch 0x50 fetch
op_number (atomic.Xor fetch) = with_fetch 0xa0 fetch
op_number atomic.Exchange = 0xe1
op_number (atomic.CompareExchange expected) = 0xf1

-- what a compare-and-exchange compares with
abbrev pub expected_by : AtomicOp → Option ℕ
expected_by (atomic.CompareExchange expected) = Some expected
expected_by _ = None

abbrev pub op_row : MapOp → Row
op_row (op.Update key value flag) = record (bare verb.Update) { key = Some key; value = Some value; flag = Some flag }
op_row (op.Delete key) = record (bare verb.Delete) { key = Some key }
op_row (op.Push value flag) = record (bare verb.Push) { value = Some value; flag = Some flag }
op_row op.Pop = bare verb.Pop
op_row (op.Store key offset bytes) = record (bare verb.Store) { key = Some key; at = Some offset; value = Some bytes }
op_row (op.Atomic key offset size what operand) =
    record (bare verb.Atomic) { key = Some key; at = Some offset; size = Some (size_in_bytes size); op = Some (op_number what); flag = expected_by what; target = Some operand }
op_row (op.SetLink key id flag) = record (bare verb.SetLink) { key = Some key; target = Some id; flag = Some flag }

-- the program that makes a change, if it is no command of the console
abbrev pub prog_of : Origin → Option ℕ
prog_of Console = None
prog_of (Prog id) = Some id

abbrev pub with_attr : MapAttr → Row → Row
with_attr attr row =
    record row { kind = Some attr.kind; key_size = Some attr.key_size; value_size = Some attr.value_size; entries = Some attr.max_entries; flags = Some attr.flags }

-- a row of a pin: the map, or the program as the target
abbrev pub pin_row : Target → List ℕ → Row
pin_row (target.Map id) path = record (bare verb.Pin) { map = Some id; path = Some path }
pin_row (target.Prog id) path = record (bare verb.Pin) { target = Some id; path = Some path }

abbrev pub change_row : Change → Row
change_row (Create id attr charge name path template) =
    with_attr attr (record (bare verb.Create) { map = Some id; size = Some charge; name = Some name; path = Some path; target = template })
change_row (Operate origin map what) = record (op_row what) { prog = prog_of origin; map = Some map }
change_row (Freeze map) = record (bare verb.Freeze) { map = Some map }
change_row (Link map key id flag) = record (bare verb.Link) { map = Some map; key = Some key; target = Some id; flag = Some flag }
change_row (Load id code name path) =
    record (bare verb.Load) { target = Some id; name = Some name; path = Some path; code = Some (spelling code.insns); value = Some (maps_bytes code.maps) }
change_row (Pin what path) = pin_row what path
change_row (Unpin path) = record (bare verb.Unpin) { path = Some path }
change_row (Attach prog device overwrite) = record (bare verb.Attach) { target = Some prog; name = Some device; flag = Some (if overwrite then 1 else 0) }
change_row (Detach device) = record (bare verb.Detach) { name = Some device }

-- of a move the name of its mark; a taking out has the serial that was taken out as its target, and one of its own
abbrev pub row_of : KeptEvent → Row
row_of (Changed serial change) = record (change_row change) { serial = Some serial }
row_of (Marked name) = record (bare verb.Mark) { name = Some name }
row_of (UndoneTo name) = record (bare verb.Undo) { name = Some name }
row_of UndoneLast = bare verb.Undo
row_of Redone = bare verb.Redo
row_of (TakenOut serial own) = record (bare verb.Without) { serial = Some own; target = Some serial }
row_of (Forgot name) = record (bare verb.Forget) { name = Some name }
