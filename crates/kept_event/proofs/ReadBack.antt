-- The row of an event reads back as that event.
use Rattle.std.proofs.Common.{◌≡◌, ℕ, ◌^◌, ◌<◌, nat_lt, nat_le, true, false, List, length, Option, Some, None, refl, ap, subst, arith}
use Rattle.std.specs.Prelude.{IfSome, unwrap_or}
use Rattle.bt_insn.specs.Spelling.{spelling}
use Rattle.std.proofs.lemmas.Bool.Decides.{nat_tests}
use Rattle.bt_mapkind.specs.declared.atomic.AtomicOp.{AtomicOp}
use Rattle.bt_mapkind.specs.declared.atomic.AtomicOp.TheVariants as atomic
use Rattle.bt_mapkind.specs.declared.atomic.AtomicSize.{AtomicSize}
use Rattle.bt_mapkind.specs.declared.atomic.AtomicSize.TheVariants.{Word, DoubleWord}
use Rattle.bt_mapkind.specs.Atomic.{size_in_bytes}
use Rattle.bt_mapkind.specs.declared.attr.MapAttr.{MapAttr}
use Rattle.bt_mapkind.specs.declared.request.MapOp.{MapOp}
use Rattle.bt_mapkind.specs.declared.request.MapOp.TheVariants as op
use Rattle.bt_roots.specs.declared.target.Target.TheVariants as target
use Rattle.host_state.specs.declared.change.Change.TheVariants.{Create, Operate, Freeze, Link, Load, Pin, Unpin, Attach, Detach}
use Rattle.host_state.specs.declared.change.Origin.{Origin}
use Rattle.host_state.specs.declared.change.Origin.TheVariants.{Console, Prog}
use Rattle.bt_verify.specs.Verified.{Checked}
use Rattle.kept_event.specs.declared.event.KeptEvent.{KeptEvent}
use Rattle.kept_event.specs.declared.event.KeptEvent.TheVariants.{Changed, Marked, UndoneTo, UndoneLast, Redone, TakenOut, Forgot}
use Rattle.kept_event.specs.declared.row.Row.{Row}
use Rattle.kept_event.specs.Bounded.{IsId, IsShort, IsChecked, IsBounded, IsBoundedOp, IsBoundedOrigin, IsBoundedChange}
use Rattle.kept_event.specs.Maps.{FitsAttr, maps_bytes}
use Rattle.kept_event.specs.Row.{op_number, expected_by, prog_of, with_attr, row_of}
use Rattle.kept_event.specs.Reading.{small, short, size_of, atomic_of, origin_in, template_in, attr_in, read_with, code_of}

small_is : (n : ℕ) → n < 2 ^ 32 → small n ≡ Some n
unfolding small
small_is n h = let below : nat_lt n (2 ^ 32) ≡ true = grind (arith, nat_tests) in rw below refl

short_is : (bytes : List ℕ) → IsShort bytes → short bytes ≡ Some bytes
unfolding short
short_is bytes h = let within : nat_le (length bytes) 260 ≡ true = grind (arith, nat_tests) in rw within refl

size_back : (size : AtomicSize) → size_of (size_in_bytes size) ≡ Some size
size_back Word = refl
size_back DoubleWord = refl

atomic_back : (what : AtomicOp) → atomic_of (op_number what) (unwrap_or (expected_by what) 0) ≡ Some what
atomic_back (atomic.Add false) = refl
atomic_back (atomic.Add true) = refl
atomic_back (atomic.Or false) = refl
atomic_back (atomic.Or true) = refl
atomic_back (atomic.And false) = refl
atomic_back (atomic.And true) = refl
atomic_back (atomic.Xor false) = refl
atomic_back (atomic.Xor true) = refl
atomic_back atomic.Exchange = refl
atomic_back (atomic.CompareExchange expected) = refl

origin_back : (origin : Origin) → IsBoundedOrigin origin → origin_in (prog_of origin) ≡ Some origin
origin_back Console b = refl
origin_back (Prog id) b = rw (small_is id b) refl

-- an operation reads back, whichever it is: its verb is no other change's
operated_back : (origin : Origin) (map serial : ℕ) (what : MapOp) (code : Option Checked) → IsBoundedOrigin origin → IsId map → IsBoundedOp what
    → read_with code (row_of (Changed serial (Operate origin map what))) ≡ Some (Changed serial (Operate origin map what))
operated_back origin map serial (op.Update key value flag) code b m o = rw (origin_back origin b, small_is map m, short_is key o.0, short_is value o.1) refl
operated_back origin map serial (op.Delete key) code b m o = rw (origin_back origin b, small_is map m, short_is key o) refl
operated_back origin map serial (op.Push value flag) code b m o = rw (origin_back origin b, small_is map m, short_is value o.0) refl
operated_back origin map serial op.Pop code b m o = rw (origin_back origin b, small_is map m) refl
operated_back origin map serial (op.Store key offset bytes) code b m o = rw (origin_back origin b, small_is map m, short_is key o.0, short_is bytes o.2) refl
operated_back origin map serial (op.Atomic key offset size what operand) code b m o =
    rw (origin_back origin b, small_is map m, short_is key o.0, size_back size, atomic_back what) refl
operated_back origin map serial (op.SetLink key id flag) code b m o = rw (origin_back origin b, small_is map m, short_is key o.0, small_is id o.1) refl

template_back : (template : Option ℕ) → IfSome template IsId → template_in template ≡ Some template
template_back None b = refl
template_back (Some id) b = rw (small_is id b) refl

attr_back : (attr : MapAttr) (row : Row) → FitsAttr attr → attr_in (with_attr attr row) ≡ Some attr
attr_back attr row fits =
    rw (small_is attr.key_size fits.key_size, small_is attr.value_size fits.value_size, small_is attr.max_entries fits.max_entries, small_is attr.flags fits.flags) refl

created_back : (serial id charge : ℕ) (attr : MapAttr) (name path : List ℕ) (template : Option ℕ) (code : Option Checked) → IsBoundedChange (Create id attr charge name path template)
    → read_with code (row_of (Changed serial (Create id attr charge name path template))) ≡ Some (Changed serial (Create id attr charge name path template))
created_back serial id charge attr name path template code b =
    rw (small_is id b.0, small_is attr.key_size b.1.key_size, small_is attr.value_size b.1.value_size, small_is attr.max_entries b.1.max_entries, small_is attr.flags b.1.flags, template_back template b.3) refl

pub back : (event : KeptEvent) (code : Option Checked) → IsBounded event → ((c : Checked) → code_of event ≡ Some c → code ≡ Some c) → read_with code (row_of event) ≡ Some event
back (Changed serial (Create id attr charge name path template)) code b given = created_back serial id charge attr name path template code b.1
back (Changed serial (Operate origin map what)) code b given = operated_back origin map serial what code b.1.0 b.1.1 b.1.2
back (Changed serial (Freeze map)) code b given = rw (small_is map b.1) refl
back (Changed serial (Link map key id flag)) code b given = rw (small_is map b.1.0, short_is key b.1.1, small_is id b.1.2) refl
back (Changed serial (Load id c name path)) code b given = rw (small_is id b.1.0, given c refl) refl
back (Changed serial (Pin (target.Map id) path)) code b given = rw (small_is id b.1) refl
back (Changed serial (Pin (target.Prog id) path)) code b given = rw (small_is id b.1) refl
back (Changed serial (Unpin path)) code b given = refl
back (Changed serial (Attach prog device true)) code b given = rw (small_is prog b.1) refl
back (Changed serial (Attach prog device false)) code b given = rw (small_is prog b.1) refl
back (Changed serial (Detach device)) code b given = refl
back (Marked name) code b given = refl
back (UndoneTo name) code b given = refl
back UndoneLast code b given = refl
back Redone code b given = refl
back (TakenOut serial own) code b given = refl
back (Forgot name) code b given = refl

-- of a load the row has the bytes and the maps of its code
pub loaded : (event : KeptEvent) (c : Checked) → code_of event ≡ Some c → IsBounded event
    → IsChecked c × ((row_of event).code ≡ Some (spelling c.insns)) × ((row_of event).value ≡ Some (maps_bytes c.maps))
loaded (Changed serial (Load id code name path)) c e b =
    let same : code ≡ c = cc in
    (subst IsChecked same b.1.1, ap (λ (x : Checked). Some (spelling x.insns)) same, ap (λ (x : Checked). Some (maps_bytes x.maps)) same)
loaded _ c e b = absurd cc
