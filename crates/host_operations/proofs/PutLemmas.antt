-- The ids that an operation leaves in a map were there, or it puts them; and if it takes none away, those that were there stay.
use Rattle.std.proofs.Common.{◌≡◌, ℕ, zero, suc, Bool, true, false, ◌==◌, nat_le, Contains, List, [], ◌∷◌, map as each, ◌&&◌, not, Option, Some, None, is_some, Ok, Err, cond, inl, inr, refl, sym, ap, subst, ◌∙◌, arith}
use Rattle.std.specs.Prelude.{◌⊎◌, if◌then◌else◌, slice_set, slice_index_or}
use Rattle.std.specs.List.{filter_map, AllByRecursion}
use Rattle.std.proofs.lemmas.List.Elements.{Contains-append_right}
use Rattle.std.specs.Ordering.{nat_cmp, eq_by_cmp}
use Rattle.std.specs.Cmp.Lexicographic.{slice_cmp, nat_list_cmp_total}
use Rattle.std.specs.FinMap as map
use Rattle.std.specs.FinMap.{find}
use Rattle.bt_mapkind.specs.declared.attr.MapAttr.{MapAttr}
use Rattle.bt_mapkind.specs.declared.errno.Errno.TheVariants.{ENOENT, E2BIG, EEXIST, EINVAL}
use Rattle.bt_mapkind.specs.declared.request.MapOp.{MapOp}
use Rattle.bt_mapkind.specs.declared.request.MapOp.TheVariants.{Update, Delete, Push, Pop, Store, Atomic, SetLink}
use Rattle.bt_mapkind.specs.declared.request.MapReply.TheVariants.{Done}
use Rattle.bt_mapkind.specs.declared.exchange.Back.TheVariants.{Link}
use Rattle.bt_mapkind.specs.Sizes.{key_fits}
use Rattle.bt_mapkind.specs.Index.{index_of}
use Rattle.bt_mapkind.specs.Contents.{Contents, ByKey, Values, Entries, Items, Slots, Links}
use Rattle.bt_mapkind.specs.Step.{Step, Changed, map_step, is_past, is_flag, slot_set, slot_cleared}
use Rattle.bt_mapkind.specs.Well.{IsWell, Shape, OfSlots, OfLinks, shape_of_type, shape_of}
use Rattle.bt_mapkind.specs.declared.attr.MapType.{MapType}
use Rattle.bt_mapkind.specs.declared.attr.MapType.TheVariants.{Array, Hash, LpmTrie, Queue, Stack, ArrayOfMaps, ProgArray, HashOfMaps}
use Rattle.bt_mapkind.specs.Kept.{is_new}
use Rattle.bt_mapkind.specs.Inner.{holds_ids}
use Rattle.bt_mapkind.proofs.Keyed.{same_of}
use Rattle.bt_mapkind.proofs.Turning.{refused, passes, refuses_not}
use Rattle.host_state.specs.Settled.{ids_in}
use Rattle.host_operations.specs.Operated.{Puts, takes_link}
use Rattle.host_state.specs.Work.{link_under}
use Rattle.host_state.proofs.ByIdLemmas.{same_some}
use Rattle.host_retirement.proofs.IdLemmas.{found_all, sorted_true}
use Rattle.host_state.proofs.LinkedLemmas.{from_each}
use Rattle.host_operations.proofs.OperationLemmas.{bytes_left}

-- ---- slots
abbrev ids_of : List (Option ℕ) → List ℕ
ids_of ls = filter_map (λ (slot : Option ℕ). slot) ls

later : (slot : Option ℕ) (ls : List (Option ℕ)) (n : ℕ) → Contains (ids_of ls) n → Contains (ids_of (slot ∷ ls)) n
later None ls n has = has
later (Some x) ls n has = Contains-append_right (x ∷ []) (ids_of ls) n has

slot_put : (slot o : Option ℕ) (ls : List (Option ℕ)) (n : ℕ) → Contains (ids_of (o ∷ ls)) n → Contains (ids_of (slot ∷ ls)) n ⊎ (o ≡ Some n)
slot_put slot None ls n has = inl (later slot ls n has)
slot_put slot (Some v) ls n (zero, lt, e) = inr (ap Some e)
slot_put slot (Some v) ls n (suc k, lt, e) = inl (later slot ls n (k, omega (arith, lt), e))

slot_behind : (slot o : Option ℕ) (ls rest : List (Option ℕ)) (n : ℕ) → (Contains (ids_of rest) n → Contains (ids_of ls) n ⊎ (o ≡ Some n)) → Contains (ids_of (slot ∷ rest)) n
    → Contains (ids_of (slot ∷ ls)) n ⊎ (o ≡ Some n)
slot_behind None o ls rest n to has = to has
slot_behind (Some x) o ls rest n to (zero, lt, e) = inl (zero, omega arith, e)
slot_behind (Some x) o ls rest n to (suc k, lt, e) = on (to (k, omega (arith, lt), e))
  where
    on : Contains (ids_of ls) n ⊎ (o ≡ Some n) → Contains (ids_of (Some x ∷ ls)) n ⊎ (o ≡ Some n)
    on (inl has) = inl (later (Some x) ls n has)
    on (inr is) = inr is

set_ids : (ls : List (Option ℕ)) (i : ℕ) (o : Option ℕ) (n : ℕ) → Contains (ids_of (slice_set ls i o)) n → Contains (ids_of ls) n ⊎ (o ≡ Some n)
set_ids [] i o n has = inl has
set_ids (slot ∷ ls) zero o n has = slot_put slot o ls n has
set_ids (slot ∷ ls) (suc i) o n has = slot_behind slot o ls (slice_set ls i o) n (λ has. set_ids ls i o n has) has

-- ---- a hash of maps
all_at : {X : Type 0} (P : X → Type 0) (xs : List X) (x : X) → AllByRecursion P xs → Contains xs x → P x
all_at P [] x all (k, lt, e) = absurd (omega (arith, lt))
all_at P (z ∷ xs) x all (zero, lt, e) = subst P e all.0
all_at P (z ∷ xs) x all (suc k, lt, e) = all_at P xs x all.1 (k, omega (arith, lt), e)

value_under : (m : ByKey ℕ) (n : ℕ) → Contains (map.values m) n → (key : List ℕ) × (map.get m key ≡ Some n)
value_under m n has =
    let e = from_each (λ (e : List ℕ × ℕ). e.1) (map.entries m) n has in (
      e.0.0,
      map.get-entries m e.0.0
          ∙ all_at (λ (x : List ℕ × ℕ). find (slice_cmp nat_cmp) x.0 (map.entries m) ≡ Some x.1) (map.entries m) e.0 (found_all (map.entries m) (sorted_true _ (map.entries_sorted m))) e.1
          ∙ ap Some (sym e.2),
    )

found_value : (es : List (List ℕ × ℕ)) (key : List ℕ) (n : ℕ) → find (slice_cmp nat_cmp) key es ≡ Some n → Contains (each (λ (e : List ℕ × ℕ). e.1) es) n
found_value [] key n found = cc
found_value (e ∷ es) key n found = by (eq_by_cmp (slice_cmp nat_cmp) key e.0) found (λ found. found_value es key n found)
  where
    by : (b : Bool) → cond b (Some e.1) (find (slice_cmp nat_cmp) key es) ≡ Some n → (find (slice_cmp nat_cmp) key es ≡ Some n → Contains (each (λ (e : List ℕ × ℕ). e.1) es) n)
        → Contains (each (λ (e : List ℕ × ℕ). e.1) (e ∷ es)) n
    by true is rest = (zero, omega arith, same_some is)
    by false is rest = Contains-append_right (e.1 ∷ []) (each (λ (e : List ℕ × ℕ). e.1) es) n (rest is)

value_there : (m : ByKey ℕ) (key : List ℕ) (n : ℕ) → map.get m key ≡ Some n → Contains (map.values m) n
value_there m key n there = found_value (map.entries m) key n (sym (map.get-entries m key) ∙ there)

inserted : (m : ByKey ℕ) (key : List ℕ) (id n : ℕ) → Contains (map.values (map.insert m key id)) n → Contains (map.values m) n ⊎ (n ≡ id)
inserted m key id n has =
    let v = value_under (map.insert m key id) n has in by v.0 (eq_by_cmp (slice_cmp nat_cmp) v.0 key) (sym (map.get-insert nat_list_cmp_total m key id v.0) ∙ v.1)
  where
    by : (q : List ℕ) (b : Bool) → cond b (Some id) (map.get m q) ≡ Some n → Contains (map.values m) n ⊎ (n ≡ id)
    by q true is = inr (sym (same_some is))
    by q false is = inl (value_there m q n is)

removed : (m : ByKey ℕ) (key : List ℕ) (n : ℕ) → Contains (map.values (map.remove m key)) n → Contains (map.values m) n
removed m key n has =
    let v = value_under (map.remove m key) n has in by v.0 (eq_by_cmp (slice_cmp nat_cmp) v.0 key) (sym (map.get-remove nat_list_cmp_total m key v.0) ∙ v.1)
  where
    by : (q : List ℕ) (b : Bool) → cond b None (map.get m q) ≡ Some n → Contains (map.values m) n
    by q true is = cc
    by q false is = value_there m q n is

-- ---- each operation
abbrev given_step : Changed → Step → Changed
given_step d (Ok x) = x
given_step d (Err errno) = d

same_step : (x y : Changed) → (let step : Step = Ok x in step ≡ Ok y) → x ≡ y
same_step x y e = ap (given_step x) e

left_by : (x changed : Changed) (n : ℕ) → (let step : Step = Ok x in step ≡ Ok changed) → Contains (ids_in changed.contents) n → Contains (ids_in x.contents) n
left_by x changed n e has = subst (λ (c : Changed). Contains (ids_in c.contents) n) (sym (same_step x changed e)) has

slots_after : (a : MapAttr) (ls : List (Option ℕ)) (op : MapOp) (changed : Changed) → map_step a (Slots ls) op ≡ Ok changed → (n : ℕ) → Contains (ids_in changed.contents) n → Contains (ids_in (Slots ls)) n ⊎ Puts op n
slots_after a ls (Update key value flag) changed e n has = refused e
slots_after a ls (Delete key) changed e n has =
    let p = passes (key_fits a key) EINVAL _ changed e in
    let q = refuses_not (is_past ls key) E2BIG _ changed p.1 in
    by (slice_index_or ls (index_of key) None) q.1
  where
    no_more : Contains (ids_of ls) n ⊎ (let o : Option ℕ = None in o ≡ Some n) → Contains (ids_of ls) n ⊎ ⊥
    no_more (inl has) = inl has
    no_more (inr is) = cc

    by : (o : Option ℕ) → slot_cleared ls key o ≡ Ok changed → Contains (ids_of ls) n ⊎ ⊥
    by None e = refused e
    by (Some id) e =
        no_more (set_ids ls (index_of key) None n (left_by (record { contents = Slots (slice_set ls (index_of key) None); reply = Done; back = Link key (slice_index_or ls (index_of key) None) }) changed n e has))
slots_after a ls (Push value flag) changed e n has = refused e
slots_after a ls Pop changed e n has = refused e
slots_after a ls (Store key offset bytes) changed e n has = refused e
slots_after a ls (Atomic key offset size op operand) changed e n has = refused e
slots_after a ls (SetLink key id flag) changed e n has =
    let p = passes (key_fits a key) EINVAL _ changed e in
    let q = passes (flag == 0) EINVAL _ changed p.1 in
    let r = refuses_not (is_past ls key) E2BIG _ changed q.1 in
    on (set_ids ls (index_of key) (Some id) n (left_by (record { contents = Slots (slice_set ls (index_of key) (Some id)); reply = Done; back = Link key (slice_index_or ls (index_of key) None) }) changed n r.1 has))
  where
    on : Contains (ids_of ls) n ⊎ (Some id ≡ Some n) → Contains (ids_of ls) n ⊎ (n ≡ id)
    on (inl has) = inl has
    on (inr is) = inr (sym (same_some is))

links_after : (a : MapAttr) (m : ByKey ℕ) (op : MapOp) (changed : Changed) → map_step a (Links m) op ≡ Ok changed → (n : ℕ) → Contains (ids_in changed.contents) n → Contains (ids_in (Links m)) n ⊎ Puts op n
links_after a m (Update key value flag) changed e n has = refused e
links_after a m (Delete key) changed e n has = let p = passes (key_fits a key) EINVAL _ changed e in by (map.contains_key m key) p.1
  where
    gone : Changed
    gone = record { contents = Links (map.remove m key); reply = Done; back = Link key (map.get m key) }

    by : (b : Bool) → (if b then Ok (record { contents = Links (map.remove m key); reply = Done; back = Link key (map.get m key) }) else Err ENOENT) ≡ Ok changed → Contains (map.values m) n ⊎ ⊥
    by true e = inl (removed m key n (left_by gone changed n e has))
    by false e = refused e
links_after a m (Push value flag) changed e n has = refused e
links_after a m Pop changed e n has = refused e
links_after a m (Store key offset bytes) changed e n has = refused e
links_after a m (Atomic key offset size op operand) changed e n has = refused e
links_after a m (SetLink key id flag) changed e n has =
    let p = passes (is_flag flag) EINVAL _ changed e in
    let q = passes (key_fits a key) EINVAL _ changed p.1 in by (map.contains_key m key) (flag == 1) (flag == 2) (nat_le a.max_entries (map.len m)) q.1
  where
    put : Changed
    put = record { contents = Links (map.insert m key id); reply = Done; back = Link key (map.get m key) }

    by : (there noexist exist full : Bool)
        → (if there then (if noexist then Err EEXIST else Ok (record { contents = Links (map.insert m key id); reply = Done; back = Link key (map.get m key) })) else
        if exist then Err ENOENT else
        if full then Err E2BIG else
        Ok (record { contents = Links (map.insert m key id); reply = Done; back = Link key (map.get m key) })) ≡ Ok changed → Contains (map.values m) n ⊎ (n ≡ id)
    by true true x y e = refused e
    by true false x y e = inserted m key id n (left_by put changed n e has)
    by false x true y e = refused e
    by false x false true e = refused e
    by false x false false e = inserted m key id n (left_by put changed n e has)

none_in_none : (n : ℕ) → Contains [] n → ⊥
none_in_none n (k, lt, e) = omega (arith, lt)

pub ids_after : (a : MapAttr) (c : Contents) (op : MapOp) (changed : Changed) → IsWell a c → map_step a c op ≡ Ok changed → (n : ℕ) → Contains (ids_in changed.contents) n → Contains (ids_in c) n ⊎ Puts op n
ids_after a (Values vs) op changed w e n has = absurd (none_in_none n (subst (λ ids. Contains ids n) (bytes_left a (Values vs) op changed w tt e) has))
ids_after a (Entries m) op changed w e n has = absurd (none_in_none n (subst (λ ids. Contains ids n) (bytes_left a (Entries m) op changed w tt e) has))
ids_after a (Items xs) op changed w e n has = absurd (none_in_none n (subst (λ ids. Contains ids n) (bytes_left a (Items xs) op changed w tt e) has))
ids_after a (Slots ls) op changed w e n has = slots_after a ls op changed e n has
ids_after a (Links m) op changed w e n has = links_after a m op changed e n has

-- ---- what takes no id away
empty_of : (o : Option ℕ) → not (is_some o) ≡ true → o ≡ None
empty_of None e = refl
empty_of (Some id) e = cc

set_keeps : (ls : List (Option ℕ)) (i : ℕ) (o : Option ℕ) (n : ℕ) → slice_index_or ls i None ≡ None → Contains (ids_of ls) n → Contains (ids_of (slice_set ls i o)) n
set_keeps [] i o n free has = has
set_keeps (None ∷ ls) zero o n free has = later o ls n has
set_keeps (Some x ∷ ls) zero o n free has = cc free
set_keeps (None ∷ ls) (suc i) o n free has = set_keeps ls i o n free has
set_keeps (Some x ∷ ls) (suc i) o n free (zero, lt, e) = (zero, omega arith, e)
set_keeps (Some x ∷ ls) (suc i) o n free (suc k, lt, e) = later (Some x) (slice_set ls i o) n (set_keeps ls i o n free (k, omega (arith, lt), e))

abbrev slot_changed : List (Option ℕ) → List ℕ → Option ℕ → Changed
slot_changed ls key o = record { contents = Slots (slice_set ls (index_of key) o); reply = Done; back = Link key (slice_index_or ls (index_of key) None) }

slot_keeps : (ls : List (Option ℕ)) (key : List ℕ) (o : Option ℕ) (changed : Changed) → slot_set ls key o ≡ Ok changed → is_new changed.back ≡ true → (n : ℕ) → Contains (ids_of ls) n → Contains (ids_in changed.contents) n
slot_keeps ls key o changed e new n has =
    let is : slot_changed ls key o ≡ changed = same_step (slot_changed ls key o) changed e in
    subst (λ (c : Changed). Contains (ids_in c.contents) n) is
    (set_keeps ls (index_of key) o n (empty_of (slice_index_or ls (index_of key) None) (ap (λ (c : Changed). is_new c.back) is ∙ new)) has)

slots_keep : (a : MapAttr) (ls : List (Option ℕ)) (op : MapOp) (changed : Changed) → map_step a (Slots ls) op ≡ Ok changed → is_new changed.back ≡ true → (n : ℕ) → Contains (ids_of ls) n → Contains (ids_in changed.contents) n
slots_keep a ls (Update key value flag) changed e new n has = refused e
slots_keep a ls (Delete key) changed e new n has =
    let p = passes (key_fits a key) EINVAL _ changed e in
    let q = refuses_not (is_past ls key) E2BIG _ changed p.1 in
    by (slice_index_or ls (index_of key) None) q.1
  where
    by : (o : Option ℕ) → slot_cleared ls key o ≡ Ok changed → Contains (ids_in changed.contents) n
    by None e = refused e
    by (Some id) e = slot_keeps ls key None changed e new n has
slots_keep a ls (Push value flag) changed e new n has = refused e
slots_keep a ls Pop changed e new n has = refused e
slots_keep a ls (Store key offset bytes) changed e new n has = refused e
slots_keep a ls (Atomic key offset size op operand) changed e new n has = refused e
slots_keep a ls (SetLink key id flag) changed e new n has =
    let p = passes (key_fits a key) EINVAL _ changed e in
    let q = passes (flag == 0) EINVAL _ changed p.1 in
    let r = refuses_not (is_past ls key) E2BIG _ changed q.1 in
    slot_keeps ls key (Some id) changed r.1 new n has

-- under a key that had none
insert_keeps : (m : ByKey ℕ) (key : List ℕ) (id n : ℕ) → map.get m key ≡ None → Contains (map.values m) n → Contains (map.values (map.insert m key id)) n
insert_keeps m key id n free has =
    let v = value_under m n has in
    value_there (map.insert m key id) v.0 n (map.get-insert nat_list_cmp_total m key id v.0 ∙ by v.0 (eq_by_cmp (slice_cmp nat_cmp) v.0 key) refl v.1)
  where
    by : (q : List ℕ) (b : Bool) → eq_by_cmp (slice_cmp nat_cmp) q key ≡ b → map.get m q ≡ Some n → cond b (Some id) (map.get m q) ≡ Some n
    by q true tied there = cc (sym there ∙ ap (map.get m) (same_of q key tied) ∙ free)
    by q false apart there = there

remove_keeps : (m : ByKey ℕ) (key : List ℕ) (n : ℕ) → map.get m key ≡ None → Contains (map.values m) n → Contains (map.values (map.remove m key)) n
remove_keeps m key n free has =
    let v = value_under m n has in
    value_there (map.remove m key) v.0 n (map.get-remove nat_list_cmp_total m key v.0 ∙ by v.0 (eq_by_cmp (slice_cmp nat_cmp) v.0 key) refl v.1)
  where
    by : (q : List ℕ) (b : Bool) → eq_by_cmp (slice_cmp nat_cmp) q key ≡ b → map.get m q ≡ Some n → cond b None (map.get m q) ≡ Some n
    by q true tied there = cc (sym there ∙ ap (map.get m) (same_of q key tied) ∙ free)
    by q false apart there = there

-- the accepted steps of a hash of maps
abbrev link_put : ByKey ℕ → List ℕ → ℕ → Changed
link_put m key id = record { contents = Links (map.insert m key id); reply = Done; back = Link key (map.get m key) }

abbrev link_gone : ByKey ℕ → List ℕ → Changed
link_gone m key = record { contents = Links (map.remove m key); reply = Done; back = Link key (map.get m key) }

gone_is : (a : MapAttr) (m : ByKey ℕ) (key : List ℕ) (changed : Changed) → map_step a (Links m) (Delete key) ≡ Ok changed → (is_some (map.get m key) ≡ true) × (link_gone m key ≡ changed)
gone_is a m key changed e = let p = passes (key_fits a key) EINVAL _ changed e in by (map.contains_key m key) refl p.1
  where
    by : (b : Bool) → map.contains_key m key ≡ b → (if b then Ok (record { contents = Links (map.remove m key); reply = Done; back = Link key (map.get m key) }) else Err ENOENT) ≡ Ok changed
        → (is_some (map.get m key) ≡ true) × (link_gone m key ≡ changed)
    by true there e = (there, same_step (link_gone m key) changed e)
    by false there e = refused e

put_is : (a : MapAttr) (m : ByKey ℕ) (key : List ℕ) (id flag : ℕ) (changed : Changed) → map_step a (Links m) (SetLink key id flag) ≡ Ok changed → link_put m key id ≡ changed
put_is a m key id flag changed e =
    let p = passes (is_flag flag) EINVAL _ changed e in
    let q = passes (key_fits a key) EINVAL _ changed p.1 in by (map.contains_key m key) (flag == 1) (flag == 2) (nat_le a.max_entries (map.len m)) q.1
  where
    by : (there noexist exist full : Bool)
        → (if there then (if noexist then Err EEXIST else Ok (record { contents = Links (map.insert m key id); reply = Done; back = Link key (map.get m key) })) else
        if exist then Err ENOENT else
        if full then Err E2BIG else
        Ok (record { contents = Links (map.insert m key id); reply = Done; back = Link key (map.get m key) })) ≡ Ok changed → link_put m key id ≡ changed
    by true true x y e = refused e
    by true false x y e = same_step (link_put m key id) changed e
    by false x true y e = refused e
    by false x false true e = refused e
    by false x false false e = same_step (link_put m key id) changed e

links_keep : (a : MapAttr) (m : ByKey ℕ) (op : MapOp) (changed : Changed) → map_step a (Links m) op ≡ Ok changed → is_new changed.back ≡ true → (n : ℕ) → Contains (map.values m) n → Contains (ids_in changed.contents) n
links_keep a m (Update key value flag) changed e new n has = refused e
links_keep a m (Delete key) changed e new n has =
    let g = gone_is a m key changed e in
    subst (λ (c : Changed). Contains (ids_in c.contents) n) g.1 (remove_keeps m key n (empty_of (map.get m key) (ap (λ (c : Changed). is_new c.back) g.1 ∙ new)) has)
links_keep a m (Push value flag) changed e new n has = refused e
links_keep a m Pop changed e new n has = refused e
links_keep a m (Store key offset bytes) changed e new n has = refused e
links_keep a m (Atomic key offset size op operand) changed e new n has = refused e
links_keep a m (SetLink key id flag) changed e new n has =
    let is = put_is a m key id flag changed e in
    subst (λ (c : Changed). Contains (ids_in c.contents) n) is (insert_keeps m key id n (empty_of (map.get m key) (ap (λ (c : Changed). is_new c.back) is ∙ new)) has)

pub ids_kept : (a : MapAttr) (c : Contents) (op : MapOp) (changed : Changed) → map_step a c op ≡ Ok changed → is_new changed.back ≡ true → (n : ℕ) → Contains (ids_in c) n → Contains (ids_in changed.contents) n
ids_kept a (Values vs) op changed e new n has = absurd (none_in_none n has)
ids_kept a (Entries m) op changed e new n has = absurd (none_in_none n has)
ids_kept a (Items xs) op changed e new n has = absurd (none_in_none n has)
ids_kept a (Slots ls) op changed e new n has = slots_keep a ls op changed e new n has
ids_kept a (Links m) op changed e new n has = links_keep a m op changed e new n has

-- ---- whether an accepted operation takes a link away, as what takes it back tells
abbrev of_ids : Shape → Bool
of_ids OfSlots = true
of_ids OfLinks = true
of_ids _ = false

kind_of_ids : (kind : MapType) → holds_ids kind ≡ of_ids (shape_of_type kind)
kind_of_ids Array = refl
kind_of_ids Hash = refl
kind_of_ids LpmTrie = refl
kind_of_ids Queue = refl
kind_of_ids Stack = refl
kind_of_ids ArrayOfMaps = refl
kind_of_ids ProgArray = refl
kind_of_ids HashOfMaps = refl

holds_as : (a : MapAttr) (c : Contents) → IsWell a c → holds_ids a.kind ≡ of_ids (shape_of c)
holds_as a c w = kind_of_ids a.kind ∙ ap of_ids w.shape

-- of bytes
none_taken : (a : MapAttr) (c : Contents) (op : MapOp) (changed : Changed) → ((key : List ℕ) → link_under c key ≡ None) → holds_ids a.kind ≡ false → (holds_ids a.kind && not (is_new changed.back)) ≡ takes_link a c op
none_taken a c op changed free bytes = ap (λ b. b && not (is_new changed.back)) bytes ∙ sym (by op)
  where
    by : (op : MapOp) → takes_link a c op ≡ false
    by (Update key value flag) = bytes
    by (Delete key) = bytes
    by (Push value flag) = bytes
    by Pop = bytes
    by (Store key offset bytes_put) = bytes
    by (Atomic key offset size op operand) = bytes
    by (SetLink key id flag) = ap is_some (free key)

not_not : (b : Bool) → not (not b) ≡ b
not_not true = refl
not_not false = refl

-- of ids
taken_so : (a : MapAttr) (changed : Changed) (o : Option ℕ) (key : List ℕ) → holds_ids a.kind ≡ true → changed.back ≡ Link key o → (holds_ids a.kind && not (is_new changed.back)) ≡ is_some o
taken_so a changed o key ids is = (λ i. ids i && not (is_new (is i))) ∙ not_not (is_some o)

slots_taken : (a : MapAttr) (ls : List (Option ℕ)) (op : MapOp) (changed : Changed) → holds_ids a.kind ≡ true → map_step a (Slots ls) op ≡ Ok changed → (holds_ids a.kind && not (is_new changed.back)) ≡ takes_link a (Slots ls) op
slots_taken a ls (Update key value flag) changed ids e = refused e
slots_taken a ls (Delete key) changed ids e =
    let p = passes (key_fits a key) EINVAL _ changed e in
    let q = refuses_not (is_past ls key) E2BIG _ changed p.1 in
    by (slice_index_or ls (index_of key) None) refl q.1
  where
    by : (o : Option ℕ) → slice_index_or ls (index_of key) None ≡ o → slot_cleared ls key o ≡ Ok changed → (holds_ids a.kind && not (is_new changed.back)) ≡ holds_ids a.kind
    by None at e = refused e
    by (Some id) at e =
        taken_so a changed (slice_index_or ls (index_of key) None) key ids (sym (ap (λ (c : Changed). c.back) (same_step (slot_changed ls key None) changed e))) ∙ ap is_some at ∙ sym ids
slots_taken a ls (Push value flag) changed ids e = refused e
slots_taken a ls Pop changed ids e = refused e
slots_taken a ls (Store key offset bytes) changed ids e = refused e
slots_taken a ls (Atomic key offset size op operand) changed ids e = refused e
slots_taken a ls (SetLink key id flag) changed ids e =
    let p = passes (key_fits a key) EINVAL _ changed e in
    let q = passes (flag == 0) EINVAL _ changed p.1 in
    let r = refuses_not (is_past ls key) E2BIG _ changed q.1 in
    taken_so a changed (slice_index_or ls (index_of key) None) key ids (sym (ap (λ (c : Changed). c.back) (same_step (slot_changed ls key (Some id)) changed r.1)))

links_taken : (a : MapAttr) (m : ByKey ℕ) (op : MapOp) (changed : Changed) → holds_ids a.kind ≡ true → map_step a (Links m) op ≡ Ok changed → (holds_ids a.kind && not (is_new changed.back)) ≡ takes_link a (Links m) op
links_taken a m (Update key value flag) changed ids e = refused e
links_taken a m (Delete key) changed ids e =
    let g = gone_is a m key changed e in taken_so a changed (map.get m key) key ids (sym (ap (λ (c : Changed). c.back) g.1)) ∙ g.0 ∙ sym ids
links_taken a m (Push value flag) changed ids e = refused e
links_taken a m Pop changed ids e = refused e
links_taken a m (Store key offset bytes) changed ids e = refused e
links_taken a m (Atomic key offset size op operand) changed ids e = refused e
links_taken a m (SetLink key id flag) changed ids e = taken_so a changed (map.get m key) key ids (sym (ap (λ (c : Changed). c.back) (put_is a m key id flag changed e)))

pub link_taken : (a : MapAttr) (c : Contents) (op : MapOp) (changed : Changed) → IsWell a c → map_step a c op ≡ Ok changed → (holds_ids a.kind && not (is_new changed.back)) ≡ takes_link a c op
link_taken a (Values vs) op changed w e = none_taken a (Values vs) op changed (λ key. refl) (holds_as a (Values vs) w)
link_taken a (Entries m) op changed w e = none_taken a (Entries m) op changed (λ key. refl) (holds_as a (Entries m) w)
link_taken a (Items xs) op changed w e = none_taken a (Items xs) op changed (λ key. refl) (holds_as a (Items xs) w)
link_taken a (Slots ls) op changed w e = slots_taken a ls op changed (holds_as a (Slots ls) w) e
link_taken a (Links m) op changed w e = links_taken a m op changed (holds_as a (Links m) w) e
