-- The ids that an operation leaves in a map were there, or it puts them.
use Rattle.std.proofs.Common.{◌≡◌, ◌⊎◌, ℕ, zero, suc, Bool, true, false, cond, not, ◌==◌, ◌&&◌, Contains, List, [], ◌∷◌, map as each, T, Option, Some, None, Ok, Err, length, inl, inr, refl, sym, ap, subst, ◌∙◌, arith}
use Rattle.std.specs.Prelude.{⊤, nat_lt, nat_le, slice_set, slice_index_or}
use Rattle.std.specs.List.{filter_map}
use Rattle.std.proofs.lemmas.List.Elements.{Contains-append_right}
use Rattle.std.specs.declared.cmp.Ordering.{Ordering}
use Rattle.std.specs.declared.cmp.Ordering.TheVariants.{Less, Equal, Greater}
use Rattle.std.specs.Ordering.{nat_cmp, is_eq, is_lt, eq_by_cmp}
use Rattle.std.specs.Cmp.{tied_itself}
use Rattle.std.specs.Cmp.Lexicographic.{slice_cmp, nat_list_cmp_total}
use Rattle.std.specs.FinMap as map
use Rattle.std.specs.FinMap.{nat_cmp-IsAntisymmetric, slice_cmp-IsAntisymmetric, find}
use Rattle.std.specs.FinMap.Entries.{is_sorted, below_all}
use Rattle.bt_mapkind.specs.declared.attr.MapAttr.{MapAttr}
use Rattle.bt_mapkind.specs.declared.errno.Errno.{Errno}
use Rattle.bt_mapkind.specs.declared.errno.Errno.TheVariants.{ENOENT, E2BIG, EEXIST, EINVAL}
use Rattle.bt_mapkind.specs.declared.request.MapOp.{MapOp}
use Rattle.bt_mapkind.specs.declared.request.MapOp.TheVariants.{Update, Delete, Push, Pop, Store, Atomic, SetLink}
use Rattle.bt_mapkind.specs.Attributes.{is_stack}
use Rattle.bt_mapkind.specs.Contents.{Contents, ByKey, Values, Entries, Items, Slots, Links}
use Rattle.bt_mapkind.specs.Prefix.{address}
use Rattle.bt_mapkind.specs.Index.{index_of}
use Rattle.bt_mapkind.specs.Sizes.{pair_fits, key_fits, value_fits, range_fits}
use Rattle.bt_mapkind.specs.Atomic.{size_in_bytes}
use Rattle.bt_mapkind.specs.Exchange.{rear_of}
use Rattle.bt_mapkind.specs.Step.{Step, Changed, map_step, unless, is_past, is_flag, part_fault, entry_at, entry_updated, entry_deleted, entry_stored, entry_combined, item_pushed, oldest_replaced, oldest_popped, newest_taken, slot_cleared, values_step, entries_step, items_step, slots_step, links_step}
use Rattle.host_state.specs.Settled.{ids_in}

-- an operation puts an id
abbrev pub Puts : MapOp → ℕ → Type 0
Puts (SetLink key id flag) named = named ≡ id
Puts _ named = ⊥

-- it holds of each id that an accepted step leaves
abbrev pub Leaves : (ℕ → Type 0) → Step → Type 0
Leaves Q (Ok changed) = (n : ℕ) → Contains (ids_in changed.contents) n → Q n
Leaves Q (Err errno) = ⊤

none_in_none : {X : Type 0} (x : X) → Contains [] x → ⊥
none_in_none x (k, lt, e) = omega (arith, lt)

module _ (Q : ℕ → Type 0) where
  -- a test that may refuse
  barred : (test : Bool) (errno : Errno) (step : Step) → Leaves Q step → Leaves Q (cond test (Err errno) step)
  barred true errno step h = tt
  barred false errno step h = h

  either : (test : Bool) (x y : Step) → Leaves Q x → Leaves Q y → Leaves Q (cond test x y)
  either true x y h k = h
  either false x y h k = k

  fault_or : (fault : Option Errno) (step : Step) → Leaves Q step → Leaves Q (unless fault step)
  fault_or (Some errno) step h = tt
  fault_or None step h = h

  nothing : (n : ℕ) → Contains [] n → Q n
  nothing n has = absurd (none_in_none n has)

  -- ---- contents of bytes
  values_leave : (a : MapAttr) (vs : List (List ℕ)) (op : MapOp) → Leaves Q (values_step a vs op)
  values_leave a vs (Update key value flag) =
      barred (not (is_flag flag)) EINVAL _ (barred (not (pair_fits a key value)) EINVAL _ (barred (is_past vs key) E2BIG _ (barred (flag == 1) EEXIST _ nothing)))
  values_leave a vs (Delete key) = tt
  values_leave a vs (Push value flag) = tt
  values_leave a vs Pop = tt
  values_leave a vs (Store key offset bytes) = fault_or (part_fault a vs key offset (length bytes)) _ nothing
  values_leave a vs (Atomic key offset size op operand) = fault_or (part_fault a vs key offset (size_in_bytes size)) _ nothing
  values_leave a vs (SetLink key id flag) = tt

  updated_leaves : (a : MapAttr) (m : ByKey (List ℕ)) (o : Option (List ℕ)) (value : List ℕ) (flag : ℕ) → Leaves Q (entry_updated a m o value flag)
  updated_leaves a m None value flag = tt
  updated_leaves a m (Some key) value flag =
      either (map.contains_key m key) _ _ (barred (flag == 1) EEXIST _ nothing) (barred (flag == 2) ENOENT _ (barred (nat_le a.max_entries (map.len m)) _ _ nothing))

  deleted_leaves : (m : ByKey (List ℕ)) (o : Option (List ℕ)) → Leaves Q (entry_deleted m o)
  deleted_leaves m None = tt
  deleted_leaves m (Some key) = either (map.contains_key m key) _ _ nothing tt

  stored_leaves : (a : MapAttr) (m : ByKey (List ℕ)) (o : Option (List ℕ × List ℕ)) (offset : ℕ) (bytes : List ℕ) → Leaves Q (entry_stored a m o offset bytes)
  stored_leaves a m None offset bytes = tt
  stored_leaves a m (Some e) offset bytes = barred (not (range_fits a offset (length bytes))) EINVAL _ nothing

  entries_leave : (a : MapAttr) (m : ByKey (List ℕ)) (op : MapOp) → Leaves Q (entries_step a m op)
  entries_leave a m (Update key value flag) = barred (not (is_flag flag)) EINVAL _ (barred (not (pair_fits a key value)) EINVAL _ (updated_leaves a m (address a key) value flag))
  entries_leave a m (Delete key) = barred (not (key_fits a key)) EINVAL _ (deleted_leaves m (address a key))
  entries_leave a m (Push value flag) = tt
  entries_leave a m Pop = tt
  entries_leave a m (Store key offset bytes) = barred (not (key_fits a key)) EINVAL _ (stored_leaves a m (entry_at m (address a key)) offset bytes)
  entries_leave a m (Atomic key offset size op operand) = barred (not (key_fits a key)) EINVAL _ (combined (entry_at m (address a key)))
    where
      combined : (o : Option (List ℕ × List ℕ)) → Leaves Q (entry_combined a m o offset size op operand)
      combined None = tt
      combined (Some e) = barred (not (range_fits a offset (size_in_bytes size))) EINVAL _ nothing
  entries_leave a m (SetLink key id flag) = tt

  oldest_leaves : (xs : List (List ℕ)) (value : List ℕ) → Leaves Q (oldest_replaced xs value)
  oldest_leaves [] value = tt
  oldest_leaves (x ∷ xs) value = nothing

  popped_leaves : (xs : List (List ℕ)) → Leaves Q (oldest_popped xs)
  popped_leaves [] = tt
  popped_leaves (x ∷ xs) = nothing

  newest_leaves : (o : Option (List ℕ)) (others : List (List ℕ)) → Leaves Q (newest_taken o others)
  newest_leaves None others = tt
  newest_leaves (Some item) others = nothing

  items_leave : (a : MapAttr) (xs : List (List ℕ)) (op : MapOp) → Leaves Q (items_step a xs op)
  items_leave a xs (Update key value flag) = tt
  items_leave a xs (Delete key) = tt
  items_leave a xs (Push value flag) =
      barred (not (is_flag flag)) EINVAL _ (barred (not (value_fits a value)) EINVAL _ (barred (flag == 1) EINVAL _
      (either (nat_lt (length xs) a.max_entries) (item_pushed xs value) _ nothing (either (flag == 2) (oldest_replaced xs value) (Err E2BIG) (oldest_leaves xs value) tt))))
  items_leave a xs Pop = either (is_stack a.kind) _ _ (newest_leaves (rear_of true xs).0 (rear_of true xs).1) (popped_leaves xs)
  items_leave a xs (Store key offset bytes) = tt
  items_leave a xs (Atomic key offset size op operand) = tt
  items_leave a xs (SetLink key id flag) = tt

-- ---- slots
abbrev ids_of : List (Option ℕ) → List ℕ
ids_of ls = filter_map (λ (slot : Option ℕ). slot) ls

later : (slot : Option ℕ) (ls : List (Option ℕ)) (n : ℕ) → Contains (ids_of ls) n → Contains (ids_of (slot ∷ ls)) n
later None ls n has = has
later (Some x) ls n has = Contains-append_right (x ∷ []) (ids_of ls) n has

slot_put : (slot o : Option ℕ) (ls : List (Option ℕ)) (n : ℕ) → Contains (ids_of (o ∷ ls)) n → Contains (ids_of (slot ∷ ls)) n ⊎ (o ≡ Some n)
slot_put slot None ls n has = inl (later slot ls n has)
slot_put slot (Some v) ls n (zero, lt, e) = inr (ap Some e)
slot_put slot (Some v) ls n (suc k, lt, e) = inl (later slot ls n (k, omega (arith, lt), e))

slot_behind : (slot o : Option ℕ) (ls rest : List (Option ℕ)) (n : ℕ) → (Contains (ids_of rest) n → Contains (ids_of ls) n ⊎ (o ≡ Some n)) → Contains (ids_of (slot ∷ rest)) n
    → Contains (ids_of (slot ∷ ls)) n ⊎ (o ≡ Some n)
slot_behind None o ls rest n to has = to has
slot_behind (Some x) o ls rest n to (zero, lt, e) = inl (zero, omega arith, e)
slot_behind (Some x) o ls rest n to (suc k, lt, e) = on (to (k, omega (arith, lt), e))
  where
    on : Contains (ids_of ls) n ⊎ (o ≡ Some n) → Contains (ids_of (Some x ∷ ls)) n ⊎ (o ≡ Some n)
    on (inl has) = inl (later (Some x) ls n has)
    on (inr is) = inr is

set_ids : (ls : List (Option ℕ)) (i : ℕ) (o : Option ℕ) (n : ℕ) → Contains (ids_of (slice_set ls i o)) n → Contains (ids_of ls) n ⊎ (o ≡ Some n)
set_ids [] i o n has = inl has
set_ids (slot ∷ ls) zero o n has = slot_put slot o ls n has
set_ids (slot ∷ ls) (suc i) o n has = slot_behind slot o ls (slice_set ls i o) n (λ has. set_ids ls i o n has) has

abbrev WasOr : Contents → MapOp → ℕ → Type 0
WasOr c op n = Contains (ids_in c) n ⊎ Puts op n

cleared_leaves : (ls : List (Option ℕ)) (key : List ℕ) (o : Option ℕ) → Leaves (λ n. Contains (ids_of ls) n ⊎ ⊥) (slot_cleared ls key o)
cleared_leaves ls key None = tt
cleared_leaves ls key (Some id) = λ n has. no_more n (set_ids ls (index_of key) None n has)
  where
    no_more : (n : ℕ) → Contains (ids_of ls) n ⊎ (let o : Option ℕ = None in o ≡ Some n) → Contains (ids_of ls) n ⊎ ⊥
    no_more n (inl has) = inl has
    no_more n (inr is) = cc

slots_leave : (a : MapAttr) (ls : List (Option ℕ)) (op : MapOp) → Leaves (WasOr (Slots ls) op) (slots_step a ls op)
slots_leave a ls (Update key value flag) = tt
slots_leave a ls (Delete key) =
    barred (WasOr (Slots ls) (Delete key)) (not (key_fits a key)) EINVAL _ (barred (WasOr (Slots ls) (Delete key)) (is_past ls key) E2BIG _ (cleared_leaves ls key (slice_index_or ls (index_of key) None)))
slots_leave a ls (Push value flag) = tt
slots_leave a ls Pop = tt
slots_leave a ls (Store key offset bytes) = tt
slots_leave a ls (Atomic key offset size op operand) = tt
slots_leave a ls (SetLink key id flag) =
    let Q : ℕ → Type 0 = WasOr (Slots ls) (SetLink key id flag) in
    barred Q (not (key_fits a key)) EINVAL _ (barred Q (not (flag == 0)) EINVAL _ (barred Q (is_past ls key) E2BIG _ put))
  where
    put : (n : ℕ) → Contains (ids_of (slice_set ls (index_of key) (Some id))) n → Contains (ids_of ls) n ⊎ (n ≡ id)
    put n has = on (set_ids ls (index_of key) (Some id) n has)
      where
        on : Contains (ids_of ls) n ⊎ (Some id ≡ Some n) → Contains (ids_of ls) n ⊎ (n ≡ id)
        on (inl was) = inl was
        on (inr is) = inr cc

-- ---- a hash of maps
both_parts : (a b : Bool) → T (a && b) → T a × T b
both_parts true b h = (tt, h)
both_parts false b h = absurd h

none_below : (k : List ℕ) (es : List (List ℕ × ℕ)) → T (below_all (slice_cmp nat_cmp) k es) → find (slice_cmp nat_cmp) k es ≡ None
none_below k [] below = refl
none_below k (e ∷ es) below =
    let p = both_parts (is_lt (slice_cmp nat_cmp k e.0)) (below_all (slice_cmp nat_cmp) k es) below in
    ap (λ b. cond b (Some e.1) (find (slice_cmp nat_cmp) k es)) (apart (slice_cmp nat_cmp k e.0) p.0) ∙ none_below k es p.1
  where
    apart : (o : Ordering) → T (is_lt o) → is_eq o ≡ false
    apart Less less = refl
    apart Equal less = absurd less
    apart Greater less = absurd less

equal_of : (order : Ordering) → is_eq order ≡ true → order ≡ Equal
equal_of Less e = cc
equal_of Equal e = refl
equal_of Greater e = cc

same_key : (p q : List ℕ) → eq_by_cmp (slice_cmp nat_cmp) p q ≡ true → p ≡ q
same_key p q tied = slice_cmp-IsAntisymmetric nat_cmp-IsAntisymmetric p q (equal_of (slice_cmp nat_cmp p q) tied)

abbrev Under : List (List ℕ × ℕ) → ℕ → Type 0
Under es n = (key : List ℕ) × (find (slice_cmp nat_cmp) key es ≡ Some n)

-- a value stands under a key
key_of : (es : List (List ℕ × ℕ)) → T (is_sorted (slice_cmp nat_cmp) es) → (n : ℕ) → Contains (each (λ (e : List ℕ × ℕ). e.1) es) n → Under es n
key_of [] sorted n has = absurd (none_in_none n has)
key_of (e ∷ es) sorted n (zero, lt, is) = (e.0, ap (λ b. cond b (Some e.1) (find (slice_cmp nat_cmp) e.0 es)) (ap is_eq (tied_itself nat_list_cmp_total e.0)) ∙ ap Some is)
key_of (e ∷ es) sorted n (suc k, lt, is) =
    let p = both_parts (below_all (slice_cmp nat_cmp) e.0 es) (is_sorted (slice_cmp nat_cmp) es) sorted in
    behind p.0 (key_of es p.1 n (k, omega (arith, lt), is))
  where
    behind : T (below_all (slice_cmp nat_cmp) e.0 es) → Under es n → Under (e ∷ es) n
    behind below u = (u.0, by (eq_by_cmp (slice_cmp nat_cmp) u.0 e.0) refl)
      where
        by : (b : Bool) → eq_by_cmp (slice_cmp nat_cmp) u.0 e.0 ≡ b → cond b (Some e.1) (find (slice_cmp nat_cmp) u.0 es) ≡ Some n
        by true tied = cc (sym (none_below e.0 es below) ∙ sym (ap (λ q. find (slice_cmp nat_cmp) q es) (same_key u.0 e.0 tied)) ∙ u.1)
        by false apart = u.1

value_of : (es : List (List ℕ × ℕ)) (key : List ℕ) (n : ℕ) → find (slice_cmp nat_cmp) key es ≡ Some n → Contains (each (λ (e : List ℕ × ℕ). e.1) es) n
value_of [] key n found = cc
value_of (e ∷ es) key n found = by (eq_by_cmp (slice_cmp nat_cmp) key e.0) found (λ found. value_of es key n found)
  where
    by : (b : Bool) → cond b (Some e.1) (find (slice_cmp nat_cmp) key es) ≡ Some n → (find (slice_cmp nat_cmp) key es ≡ Some n → Contains (each (λ (e : List ℕ × ℕ). e.1) es) n)
        → Contains (each (λ (e : List ℕ × ℕ). e.1) (e ∷ es)) n
    by true is rest = let same : e.1 ≡ n = cc in (zero, omega arith, same)
    by false is rest = Contains-append_right (e.1 ∷ []) (each (λ (e : List ℕ × ℕ). e.1) es) n (rest is)

key_in : (m : ByKey ℕ) (n : ℕ) → Contains (map.values m) n → (key : List ℕ) × (map.get m key ≡ Some n)
key_in m n has = let u = key_of (map.entries m) (map.entries_sorted m) n has in (u.0, map.get-entries m u.0 ∙ u.1)

value_in : (m : ByKey ℕ) (key : List ℕ) (n : ℕ) → map.get m key ≡ Some n → Contains (map.values m) n
value_in m key n there = value_of (map.entries m) key n (sym (map.get-entries m key) ∙ there)

inserted : (m : ByKey ℕ) (key : List ℕ) (id n : ℕ) → Contains (map.values (map.insert m key id)) n → Contains (map.values m) n ⊎ (n ≡ id)
inserted m key id n has =
    let v = key_in (map.insert m key id) n has in by v.0 (eq_by_cmp (slice_cmp nat_cmp) v.0 key) (sym (map.get-insert nat_list_cmp_total m key id v.0) ∙ v.1)
  where
    by : (q : List ℕ) (b : Bool) → cond b (Some id) (map.get m q) ≡ Some n → Contains (map.values m) n ⊎ (n ≡ id)
    by q true is = inr cc
    by q false is = inl (value_in m q n is)

removed : (m : ByKey ℕ) (key : List ℕ) (n : ℕ) → Contains (map.values (map.remove m key)) n → Contains (map.values m) n
removed m key n has =
    let v = key_in (map.remove m key) n has in by v.0 (eq_by_cmp (slice_cmp nat_cmp) v.0 key) (sym (map.get-remove nat_list_cmp_total m key v.0) ∙ v.1)
  where
    by : (q : List ℕ) (b : Bool) → cond b None (map.get m q) ≡ Some n → Contains (map.values m) n
    by q true is = cc
    by q false is = value_in m q n is

links_leave : (a : MapAttr) (m : ByKey ℕ) (op : MapOp) → Leaves (WasOr (Links m) op) (links_step a m op)
links_leave a m (Update key value flag) = tt
links_leave a m (Delete key) =
    let Q : ℕ → Type 0 = WasOr (Links m) (Delete key) in
    barred Q (not (key_fits a key)) EINVAL _ (either Q (map.contains_key m key) _ _ (λ n has. inl (removed m key n has)) tt)
links_leave a m (Push value flag) = tt
links_leave a m Pop = tt
links_leave a m (Store key offset bytes) = tt
links_leave a m (Atomic key offset size op operand) = tt
links_leave a m (SetLink key id flag) =
    let Q : ℕ → Type 0 = WasOr (Links m) (SetLink key id flag) in
    barred Q (not (is_flag flag)) EINVAL _ (barred Q (not (key_fits a key)) EINVAL _
    (either Q (map.contains_key m key) _ _ (barred Q (flag == 1) EEXIST _ (inserted m key id)) (barred Q (flag == 2) ENOENT _ (barred Q (nat_le a.max_entries (map.len m)) E2BIG _ (inserted m key id)))))

-- ---- any contents
pub step_leaves : (a : MapAttr) (c : Contents) (op : MapOp) → Leaves (WasOr c op) (map_step a c op)
step_leaves a (Values vs) op = values_leave (WasOr (Values vs) op) a vs op
step_leaves a (Entries m) op = entries_leave (WasOr (Entries m) op) a m op
step_leaves a (Items xs) op = items_leave (WasOr (Items xs) op) a xs op
step_leaves a (Slots ls) op = slots_leave a ls op
step_leaves a (Links m) op = links_leave a m op

pub ids_after : (a : MapAttr) (c : Contents) (op : MapOp) (changed : Changed) → map_step a c op ≡ Ok changed → (n : ℕ) → Contains (ids_in changed.contents) n → Contains (ids_in c) n ⊎ Puts op n
ids_after a c op changed e = by (map_step a c op) e (step_leaves a c op)
  where
    by : (step : Step) → step ≡ Ok changed → Leaves (WasOr c op) step → (n : ℕ) → Contains (ids_in changed.contents) n → Contains (ids_in c) n ⊎ Puts op n
    by (Ok x) e leaves = let same : x ≡ changed = cc in λ n has. leaves n (subst (λ (y : Changed). Contains (ids_in y.contents) n) (sym same) has)
    by (Err errno) e leaves = cc
