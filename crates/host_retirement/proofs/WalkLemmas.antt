-- How many calls a walk over the links makes: on each map no more than it has room for, whatever stands in it.
use Rattle.std.proofs.Common.{◌≡◌, ◌+◌, ◌*◌, ◌≤◌, ℕ, Bool, true, false, List, [], ◌∷◌, ◌++◌, length, Option, Some, None, refl, sym, ap, subst, ◌∙◌, arith}
use Rattle.std.proofs.lemmas.List.{length-map}
use Rattle.std.proofs.lemmas.List.Sums.{sum_by-cons}
use Rattle.std.specs.Prelude.{if◌then◌else◌, is_some}
use Rattle.std.specs.List.{sum_by, filter, enumerate_from}
use Rattle.std.specs.List.Sorted.{IsStrictlySortedBy}
use Rattle.std.specs.Map.{keys_of}
use Rattle.std.specs.Option.{option_map}
use Rattle.std.specs.Ordering.{nat_cmp}
use Rattle.std.specs.FinMap as map
use Rattle.bt_mapkind.specs.declared.attr.MapAttr.{MapAttr}
use Rattle.bt_mapkind.specs.Contents.{Contents, Values, Entries as EntriesOf, Items, Slots, Links}
use Rattle.bt_mapkind.specs.Read.{filled_keys, key_of_index}
use Rattle.bt_mapkind.specs.Seen.{Seen}
use Rattle.bt_mapkind.specs.Well.{IsWell}
use Rattle.bt_objects.specs.declared.make.Make.{Make}
use Rattle.bt_objects.specs.Boxes.{make_of, one_more}
use Rattle.host_state.specs.Ask.{count_of}
use Rattle.bt_objects.specs.ById.{ById}
use Rattle.host_state.specs.declared.entry.MapEntry.{MapEntry}
use Rattle.host_retirement.proofs.EntryLemmas.{holds_ids_by, with_id, listed, host_at, hosts_listed}
use Rattle.host_retirement.specs.Gathered.{calls_by, calls_in, count_at}
use Rattle.host_state.specs.Hosts.{Entries, Table, host_of, IsBuilt}
use Rattle.bt_mapkind.specs.Inner.{holds_ids}
use Rattle.host_state.specs.State.{HostMap}
use Rattle.host_state.specs.Work.{CallsAtMost}
use Rattle.host_state.proofs.CallLemmas.{calls_to_walk, within_one, within_both}
use Rattle.host_state.proofs.ByIdLemmas.{same_some}

-- ---- no more stands in a map than it has room for
filled_short : (n : ℕ) (ls : List (Option ℕ)) → length (filter (λ (e : ℕ × Option ℕ). is_some e.1) (enumerate_from n ls)) ≤ length ls
filled_short n [] = omega arith
filled_short n (None ∷ ls) = omega (arith, filled_short (n + 1) ls)
filled_short n (Some id ∷ ls) = omega (arith, filled_short (n + 1) ls)

filled_within : (ls : List (Option ℕ)) → length (filled_keys ls) ≤ length ls
filled_within ls =
    let long = length-map (filter (λ (e : ℕ × Option ℕ). is_some e.1) (enumerate_from 0 ls)) (λ (e : ℕ × Option ℕ). key_of_index e.0) in
    omega (arith, long, filled_short 0 ls)

count_within : (a : MapAttr) (c : Contents) → IsWell a c → count_of a c ≤ a.max_entries
count_within a (Values vs) w = let sizes = w.sizes.0 in omega (arith, sizes)
count_within a (EntriesOf m) w = w.sizes.0
count_within a (Items xs) w = w.sizes.0
count_within a (Slots ls) w = let sizes = w.sizes in omega (arith, sizes, filled_within ls)
count_within a (Links m) w = w.sizes.0

-- ---- the walk on one map
abbrev calls_at_box : Option Seen → ℕ
calls_at_box box = if holds_ids_by box then 2 * count_at box + 1 else 0

at_box : (b : Option Seen) (make : Make) (count old middle new : ℕ) → Some make ≡ option_map make_of b → holds_ids make.attr.kind ≡ true → count ≡ count_at b → middle ≡ one_more old
    → CallsAtMost (2 * count) middle new → CallsAtMost (calls_at_box b) old new
at_box None make count old middle new there ids counted one read = cc
at_box (Some s) make count old middle new there ids counted one read = by (holds_ids s.attr.kind) (ap (λ (m : Make). holds_ids m.attr.kind) (sym (same_some there)) ∙ ids)
  where
    by : (holds : Bool) → holds ≡ true → CallsAtMost (if holds then 2 * count_at (Some s) + 1 else 0) old new
    by true e = within_both 1 (2 * count) (2 * count_at (Some s) + 1) old middle new (omega (arith, counted)) (within_one 1 old middle (omega arith) one) read
    by false e = cc

pub read_within : (boxes : ById Seen) (id : ℕ) (entry : Option MapEntry) (make : Make) (count old middle new : ℕ) → is_some entry ≡ true → Some make ≡ option_map make_of (map.get boxes id)
    → holds_ids make.attr.kind ≡ true → count ≡ count_at (map.get boxes id) → middle ≡ one_more old → CallsAtMost (2 * count) middle new → CallsAtMost (calls_by boxes id entry) old new
read_within boxes id None make count old middle new some there ids counted one read = cc
read_within boxes id (Some entry) make count old middle new some there ids counted one read = at_box (map.get boxes id) make count old middle new there ids counted one read

-- ---- the maps of a table
abbrev calls_of : Option HostMap → ℕ
calls_of None = 0
calls_of (Some m) = calls_to_walk m

by_kind : (ids : Bool) (count max : ℕ) → count ≤ max → (if ids then 2 * count + 1 else 0) ≤ (if ids then 2 * max + 1 else 0)
by_kind true count max below = omega (arith, below)
by_kind false count max below = omega arith

of_entry : (boxes : ById Seen) (entries : Entries) → IsBuilt boxes entries → (id : ℕ) (entry : Option MapEntry) → calls_by boxes id entry ≤ calls_of (host_at boxes id entry)
of_entry boxes entries built id None = omega arith
of_entry boxes entries built id (Some entry) = at (map.get boxes id) refl
  where
    at : (b : Option Seen) → map.get boxes id ≡ b → calls_at_box b ≤ calls_of (host_of b (Some entry))
    at None is = omega arith
    at (Some s) is = by_kind (holds_ids s.attr.kind) (count_of s.attr s.contents) s.attr.max_entries (count_within s.attr s.contents (built.well id s is))

each_within : (boxes : ById Seen) (es : Table MapEntry) → ((id : ℕ) (entry : Option MapEntry) → calls_by boxes id entry ≤ calls_of (host_at boxes id entry))
    → sum_by (λ e. calls_by boxes e.0 e.1) es ≤ sum_by (λ e. calls_to_walk e.1) (listed (host_at boxes) es)
each_within boxes [] below = omega arith
each_within boxes (e ∷ es) below = here (host_at boxes e.0 e.1) (below e.0 e.1) (each_within boxes es below)
  where
    here : (o : Option HostMap) → calls_by boxes e.0 e.1 ≤ calls_of o → sum_by (λ e. calls_by boxes e.0 e.1) es ≤ sum_by (λ e. calls_to_walk e.1) (listed (host_at boxes) es)
        → sum_by (λ e. calls_by boxes e.0 e.1) (e ∷ es) ≤ sum_by (λ e. calls_to_walk e.1) (with_id e.0 o ++ listed (host_at boxes) es)
    here None least rest = omega (arith, least, rest, sum_by-cons (λ (e : ℕ × Option MapEntry). calls_by boxes e.0 e.1) e es)
    here (Some m) least rest =
        omega (
          arith,
          least,
          rest,
          sum_by-cons (λ (e : ℕ × Option MapEntry). calls_by boxes e.0 e.1) e es,
          sum_by-cons (λ (e : ℕ × HostMap). calls_to_walk e.1) (e.0, m) (listed (host_at boxes) es),
        )

pub walk_within : (boxes : ById Seen) (entries : Entries) → IsBuilt boxes entries → IsStrictlySortedBy nat_cmp (keys_of entries.maps)
    → sum_by (λ e. calls_by boxes e.0 e.1) entries.maps ≤ calls_in boxes entries
walk_within boxes entries built sorted =
    subst (λ hosts. sum_by (λ e. calls_by boxes e.0 e.1) entries.maps ≤ sum_by (λ e. calls_to_walk e.1) hosts) (sym (hosts_listed boxes entries sorted)) (each_within boxes entries.maps (of_entry boxes entries built))
