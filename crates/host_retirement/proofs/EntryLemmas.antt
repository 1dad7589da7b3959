-- The maps and the programs of a world are those of its entries, in their order.
use Rattle.std.proofs.Common.{◌≡◌, ◌+◌, ℕ, zero, suc, Bool, false, List, [], ◌∷◌, ◌++◌, length, Option, Some, None, cond, refl, sym, ap, ◌∙◌, arith}
use Rattle.std.specs.List.{flat_map, range_with_len, AllByRecursion}
use Rattle.std.specs.List.Sorted.{IsStrictlySortedBy}
use Rattle.std.specs.Map.{keys_of}
use Rattle.std.specs.Ordering.{nat_cmp, is_eq}
use Rattle.std.specs.declared.cmp.Ordering.TheVariants.{Less}
use Rattle.std.specs.Cmp.{nat_cmp_total}
use Rattle.std.specs.FinMap as map
use Rattle.std.specs.FinMap.{put}
use Rattle.std.specs.FinMap.Entries.{by_order}
use Rattle.std.specs.Option.{option_map_or}
use Rattle.bt_mapkind.specs.declared.attr.MapType.{MapType}
use Rattle.bt_mapkind.specs.Seen.{Seen}
use Rattle.bt_roots.specs.declared.target.Target.{Target}
use Rattle.bt_roots.specs.declared.target.Target.TheVariants.{Map}
use Rattle.host_state.specs.Settled.{named_in}
use Rattle.bt_mapkind.specs.Inner.{holds_ids}
use Rattle.host_state.specs.declared.entry.MapEntry.{MapEntry}
use Rattle.bt_objects.specs.ById.{ById, put_at, laid}
use Rattle.host_state.specs.State.{HostMap, HostProg}
use Rattle.host_state.specs.Hosts.{Entries, held, found_in, host_of, hosts_of, progs_of}
use Rattle.host_state.proofs.ByIdLemmas.{put_there}
use Rattle.host_state.proofs.HostLemmas.{get-laid, no_host}

-- whether a box is that of a map of ids, and a link from a map of this type
abbrev pub holds_ids_by : Option Seen → Bool
holds_ids_by box = option_map_or (λ s. holds_ids s.attr.kind) box false

abbrev pub link_from : ℕ → MapType → ℕ → Target × Target
link_from id kind named = (Map id, named_in kind named)

-- what stands under an id, with the id, if anything does
abbrev pub with_id : {Y : Type 0} → ℕ → Option Y → List (ℕ × Y)
with_id id None = []
with_id id (Some y) = (id, y) ∷ []

-- what a function makes of a table, in its order
abbrev pub listed : {X Y : Type 0} → (ℕ → Option X → Option Y) → List (ℕ × Option X) → List (ℕ × Y)
listed {X} {Y} f es = flat_map (λ (e : ℕ × Option X). with_id e.0 (f e.0 e.1)) es

abbrev pub host_at : ById Seen → ℕ → Option MapEntry → Option HostMap
host_at boxes id entry = host_of (map.get boxes id) entry

abbrev pub prog_itself : ℕ → Option HostProg → Option HostProg
prog_itself id prog = prog

abbrev pub IsBelow : {X : Type 0} → ℕ → List (ℕ × X) → Type 0
IsBelow k es = AllByRecursion (λ j. nat_cmp k j ≡ Less) (keys_of es)

-- an id below all entries has none, and is below all that is made of them
pub none_at : {X : Type 0} (k : ℕ) (es : List (ℕ × Option X)) → IsBelow k es → found_in es k ≡ None
none_at k [] h = refl
none_at k (e ∷ es) h = ap (λ o. cond (is_eq o) (Some e.1) (found_in es k)) h.0 ∙ none_at k es h.1

below_listed : {X Y : Type 0} (f : ℕ → Option X → Option Y) (k : ℕ) (es : List (ℕ × Option X)) → IsBelow k es → IsBelow k (listed f es)
below_listed f k [] h = tt
below_listed {X} {Y} f k (e ∷ es) h = here (f e.0 e.1) (below_listed f k es h.1)
  where
    here : (o : Option Y) → IsBelow k (listed f es) → IsBelow k (with_id e.0 o ++ listed f es)
    here None below = below
    here (Some y) below = (h.0, below)

put_first : {Y : Type 0} (k : ℕ) (y : Y) (es : List (ℕ × Y)) → IsBelow k es → put nat_cmp k y es ≡ (k, y) ∷ es
put_first k y [] h = refl
put_first k y (e ∷ es) h = ap (λ o. by_order o ((k, y) ∷ e ∷ es) ((e.0, y) ∷ es) (e ∷ put nat_cmp k y es)) h.0

-- what is laid is in the order of the ids
pub entries_are : {X Y : Type 0} (f : ℕ → Option X → Option Y) (es : List (ℕ × Option X)) → ((q : ℕ) → f q None ≡ None) → IsStrictlySortedBy nat_cmp (keys_of es) → map.entries (laid f es) ≡ listed f es
unfolding IsStrictlySortedBy
entries_are {X} {Y} f [] nothing h = none
  where
    sorted_none : map.entries (map.from_sorted {X = Y} {R = nat_cmp} []) ≡ []
    sorted_none = map.entries-from_sorted nat_cmp [] tt

    is_empty : map.from_sorted {X = Y} {R = nat_cmp} [] ≡ map.empty
    is_empty = map.empty_of_len (map.from_sorted {X = Y} {R = nat_cmp} []) (map.len-entries (map.from_sorted {X = Y} {R = nat_cmp} []) ∙ ap length sorted_none)

    none : map.entries (laid f []) ≡ []
    none = sym (ap map.entries is_empty) ∙ sorted_none
entries_are {X} {Y} f (e ∷ es) nothing h = here (f e.0 e.1) (entries_are f es nothing h.1)
  where
    absent : map.get (laid f es) e.0 ≡ None
    absent = get-laid f es e.0 nothing ∙ ap (λ (o : Option (Option X)). f e.0 (held o)) (none_at e.0 es h.0) ∙ nothing e.0

    here : (o : Option Y) → map.entries (laid f es) ≡ listed f es → map.entries (put_at (laid f es) e.0 o) ≡ with_id e.0 o ++ listed f es
    here None rest = ap map.entries (put_there (laid f es) e.0 None absent) ∙ rest
    here (Some y) rest =
        map.entries-insert nat_cmp_total (laid f es) e.0 y ∙ ap (put nat_cmp e.0 y) rest
        ∙ put_first e.0 y (listed f es) (below_listed f e.0 es h.0)

pub hosts_listed : (boxes : ById Seen) (entries : Entries) → IsStrictlySortedBy nat_cmp (keys_of entries.maps) → map.entries (hosts_of boxes entries) ≡ listed (host_at boxes) entries.maps
hosts_listed boxes entries h = entries_are (host_at boxes) entries.maps (λ q. no_host (map.get boxes q)) h

pub progs_listed : (entries : Entries) → IsStrictlySortedBy nat_cmp (keys_of entries.progs) → map.entries (progs_of entries) ≡ listed prog_itself entries.progs
progs_listed entries h = entries_are prog_itself entries.progs (λ q. refl) h

pub range_push : (a n : ℕ) → range_with_len a (suc n) ≡ range_with_len a n ++ (a + n) ∷ []
range_push a zero = ap (λ k. k ∷ []) (omega arith)
range_push a (suc n) = ap (λ ks. a ∷ ks) (range_push (a + 1) n ∙ ap (λ k. range_with_len (a + 1) n ++ k ∷ []) (omega arith))
