-- The links of a state, by its maps and its programs.
use Rattle.std.proofs.Common.{◌≡◌, ℕ, zero, suc, Bool, true, false, List, [], ◌∷◌, map as each, Contains, Option, Some, None, cond, T, IsTrue, inl, inr, refl, sym, ap, subst, ◌∙◌, arith}
use Rattle.std.specs.Prelude.{◌⊎◌}
use Rattle.std.specs.List.{flat_map}
use Rattle.std.proofs.lemmas.List.Elements.{Contains-append_left, Contains-append_right, Contains-append_cases}
use Rattle.std.specs.declared.cmp.Ordering.{Ordering}
use Rattle.std.specs.declared.cmp.Ordering.TheVariants.{Less, Equal, Greater}
use Rattle.std.specs.Ordering.{nat_cmp, is_eq, is_lt, eq_by_cmp}
use Rattle.std.specs.FinMap as map
use Rattle.std.specs.FinMap.{find}
use Rattle.std.specs.FinMap.Entries.{is_sorted, below_all}
use Rattle.bt_mapkind.proofs.Stays.{both_true}
use Rattle.bt_roots.specs.declared.target.Target.{Target}
use Rattle.bt_roots.specs.declared.target.Target.TheVariants.{Map, Prog}
use Rattle.bt_roots.specs.Reachable.{Links, IsReachable, IsRoot, start, link}
use Rattle.bt_roots.proofs.LiveLemmas.{live_is}
use Rattle.host_state.specs.State.{HostMap, HostProg, State}
use Rattle.host_state.specs.Settled.{ids_in, named_in, maps_named, links_of_map, links_of_prog, links_of, is_reached, is_live_map, is_live_prog, is_live_in, IsSettled}
use Rattle.host_state.proofs.ByIdLemmas.{same_some, same_of, is_itself}

abbrev Link : Type 0
Link = Target × Target

-- ---- a list that is made of each element
pub from_each : {X Y : Type 0} (h : X → Y) (xs : List X) (y : Y) → Contains (each h xs) y → (x : X) × Contains xs x × (y ≡ h x)
from_each h [] y (k, lt, e) = absurd (omega (arith, lt))
from_each h (x ∷ xs) y (zero, lt, e) = (x, (zero, omega arith, refl), sym e)
from_each h (x ∷ xs) y (suc k, lt, e) =
    let rest = from_each h xs y (k, omega (arith, lt), e) in (rest.0, Contains-append_right (x ∷ []) xs rest.0 rest.1, rest.2)

pub to_each : {X Y : Type 0} (h : X → Y) (xs : List X) (x : X) → Contains xs x → Contains (each h xs) (h x)
to_each h [] x (k, lt, e) = absurd (omega (arith, lt))
to_each h (z ∷ xs) x (zero, lt, e) = (zero, omega arith, ap h e)
to_each h (z ∷ xs) x (suc k, lt, e) = Contains-append_right (h z ∷ []) (each h xs) (h x) (to_each h xs x (k, omega (arith, lt), e))

-- ---- finite maps by id
none_below : {X : Type 0} (k : ℕ) (es : List (ℕ × X)) → below_all nat_cmp k es ≡ true → find nat_cmp k es ≡ None
none_below k [] below = refl
none_below {X} k (e ∷ es) below =
    let p = both_true (is_lt (nat_cmp k e.0)) (below_all nat_cmp k es) below in
    ap (λ b. cond b (Some e.1) (find nat_cmp k es)) (apart (nat_cmp k e.0) p.0) ∙ none_below k es p.1
  where
    apart : (o : Ordering) → is_lt o ≡ true → is_eq o ≡ false
    apart Less less = refl
    apart Equal less = cc
    apart Greater less = cc

pub from_all : {X : Type 0} (f : ℕ × X → Links) (es : List (ℕ × X)) → is_sorted nat_cmp es ≡ true → (l : Link) → Contains (flat_map f es) l
    → (q : ℕ) × (v : X) × (find nat_cmp q es ≡ Some v) × Contains (f (q, v)) l
from_all f [] sorted l (k, lt, e) = absurd (omega (arith, lt))
from_all {X} f (e ∷ es) sorted l there =
    let p = both_true (below_all nat_cmp e.0 es) (is_sorted nat_cmp es) sorted in
    by p.0 (λ c. from_all f es p.1 l c) (Contains-append_cases (f e) (flat_map f es) l there)
  where
    later : (q : ℕ) (v : X) → below_all nat_cmp e.0 es ≡ true → find nat_cmp q es ≡ Some v → (b : Bool) → eq_by_cmp nat_cmp q e.0 ≡ b → cond b (Some e.1) (find nat_cmp q es) ≡ Some v
    later q v below found true tied = cc (sym (none_below e.0 es below) ∙ sym (ap (λ k. find nat_cmp k es) (same_of q e.0 tied)) ∙ found)
    later q v below found false apart = found

    by : below_all nat_cmp e.0 es ≡ true → (Contains (flat_map f es) l → (q : ℕ) × (v : X) × (find nat_cmp q es ≡ Some v) × Contains (f (q, v)) l) → Contains (f e) l ⊎ Contains (flat_map f es) l
        → (q : ℕ) × (v : X) × (find nat_cmp q (e ∷ es) ≡ Some v) × Contains (f (q, v)) l
    by below rest (inl here) = (e.0, e.1, ap (λ b. cond b (Some e.1) (find nat_cmp e.0 es)) (is_itself e.0), here)
    by below rest (inr there) = let r = rest there in (r.0, r.1, later r.0 r.1 below r.2 (eq_by_cmp nat_cmp r.0 e.0) refl, r.3)

pub to_all : {X : Type 0} (f : ℕ × X → Links) (es : List (ℕ × X)) (q : ℕ) (v : X) → find nat_cmp q es ≡ Some v → (l : Link) → Contains (f (q, v)) l → Contains (flat_map f es) l
to_all f [] q v found l there = cc
to_all {X} f (e ∷ es) q v found l there = by (eq_by_cmp nat_cmp q e.0) refl found (λ found. to_all f es q v found l there)
  where
    by : (b : Bool) → eq_by_cmp nat_cmp q e.0 ≡ b → cond b (Some e.1) (find nat_cmp q es) ≡ Some v → (find nat_cmp q es ≡ Some v → Contains (flat_map f es) l) → Contains (flat_map f (e ∷ es)) l
    by true tied is rest = Contains-append_left (f e) (flat_map f es) l (subst (λ (x : ℕ × X). Contains (f x) l) (λ i. (same_of q e.0 tied i, sym (same_some is) i)) there)
    by false apart is rest = Contains-append_right (f e) (flat_map f es) l (rest is)

sorted_true : (b : Bool) → T b → b ≡ true
sorted_true true t = refl
sorted_true false t = absurd t

-- ---- the links of a state
pub record IsMapLink (s : State) (l : Link) : Type 0 where
  pub id : ℕ
  pub host : HostMap
  pub named : ℕ
  pub there : map.get s.maps id ≡ Some host
  pub has : Contains (ids_in host.contents) named
  pub is : l ≡ (Map id, named_in host.attr.kind named)

pub record IsProgLink (s : State) (l : Link) : Type 0 where
  pub id : ℕ
  pub prog : HostProg
  pub named : ℕ
  pub there : map.get s.progs id ≡ Some prog
  pub has : Contains (maps_named prog) named
  pub is : l ≡ (Prog id, Map named)

map_link : (s : State) (l : Link) → Contains (flat_map links_of_map (map.entries s.maps)) l → IsMapLink s l
map_link s l there =
    let f = from_all links_of_map (map.entries s.maps) (sorted_true _ (map.entries_sorted s.maps)) l there in
    let e = from_each (λ id. (Map f.0, named_in f.1.attr.kind id)) (ids_in f.1.contents) l f.3 in
    record { id = f.0; host = f.1; named = e.0; there = map.get-entries s.maps f.0 ∙ f.2; has = e.1; is = e.2 }

prog_link : (s : State) (l : Link) → Contains (flat_map links_of_prog (map.entries s.progs)) l → IsProgLink s l
prog_link s l there =
    let f = from_all links_of_prog (map.entries s.progs) (sorted_true _ (map.entries_sorted s.progs)) l there in
    let e = from_each (λ id. (Prog f.0, Map id)) (maps_named f.1) l f.3 in
    record { id = f.0; prog = f.1; named = e.0; there = map.get-entries s.progs f.0 ∙ f.2; has = e.1; is = e.2 }

pub from_links : (s : State) (l : Link) → Contains (links_of s) l → IsProgLink s l ⊎ IsMapLink s l
from_links s l there = by (Contains-append_cases (flat_map links_of_prog (map.entries s.progs)) (flat_map links_of_map (map.entries s.maps)) l there)
  where
    by : Contains (flat_map links_of_prog (map.entries s.progs)) l ⊎ Contains (flat_map links_of_map (map.entries s.maps)) l → IsProgLink s l ⊎ IsMapLink s l
    by (inl p) = inl (prog_link s l p)
    by (inr m) = inr (map_link s l m)

pub to_links_map : (s : State) (id : ℕ) (m : HostMap) (named : ℕ) → map.get s.maps id ≡ Some m → Contains (ids_in m.contents) named → Contains (links_of s) (Map id, named_in m.attr.kind named)
to_links_map s id m named there has =
    Contains-append_right (flat_map links_of_prog (map.entries s.progs)) (flat_map links_of_map (map.entries s.maps)) (Map id, named_in m.attr.kind named)
    (to_all links_of_map (map.entries s.maps) id m (sym (map.get-entries s.maps id) ∙ there) (Map id, named_in m.attr.kind named)
    (to_each (λ x. (Map id, named_in m.attr.kind x)) (ids_in m.contents) named has))

pub to_links_prog : (s : State) (id : ℕ) (p : HostProg) (named : ℕ) → map.get s.progs id ≡ Some p → Contains (maps_named p) named → Contains (links_of s) (Prog id, Map named)
to_links_prog s id p named there has =
    Contains-append_left (flat_map links_of_prog (map.entries s.progs)) (flat_map links_of_map (map.entries s.maps)) (Prog id, Map named)
    (to_all links_of_prog (map.entries s.progs) id p (sym (map.get-entries s.progs id) ∙ there) (Prog id, Map named)
    (to_each (λ x. (Prog id, Map x)) (maps_named p) named has))

-- ---- what is reached
pub root_reached : (s : State) (t : Target) → IsRoot s.pins s.devices t → IsTrue (is_reached s t)
root_reached s t root = (live_is s.pins s.devices (links_of s) t).1 (start t root)

pub next_reached : (s : State) (from to : Target) → IsTrue (is_reached s from) → Contains (links_of s) (from, to) → IsTrue (is_reached s to)
next_reached s from to reached there = (live_is s.pins s.devices (links_of s) to).1 (link from to ((live_is s.pins s.devices (links_of s) from).0 reached) there)

along : {Start : Target → Type 0} (links : Links) (P : Target → Type 0) → ((t : Target) → Start t → P t) → ((from to : Target) → P from → Contains links (from, to) → P to) → (t : Target) → IsReachable Start links t → P t
along links P first next t (start _ is) = first t is
along links P first next t (link from _ r there) = next from t (along links P first next from r) there

-- a fact of the roots that goes along the links holds of all that is reached
pub all_reached : (s : State) (P : Target → Type 0) → ((t : Target) → IsRoot s.pins s.devices t → P t) → ((from to : Target) → P from → Contains (links_of s) (from, to) → P to)
    → (t : Target) → IsTrue (is_reached s t) → P t
all_reached s P first next t reached = along (links_of s) P first next t ((live_is s.pins s.devices (links_of s) t).0 reached)

-- in a settled state what is live is reached
pub live_reached : (s : State) → IsSettled s → (t : Target) → IsTrue (is_live_in s t) → IsTrue (is_reached s t)
live_reached s h (Map q) live = by (map.get s.maps q) refl live
  where
    by : (o : Option HostMap) → map.get s.maps q ≡ o → is_live_map o ≡ true → IsTrue (is_reached s (Map q))
    by None is live = cc
    by (Some m) is live = h.maps q m is live
live_reached s h (Prog q) live = by (map.get s.progs q) refl live
  where
    by : (o : Option HostProg) → map.get s.progs q ≡ o → is_live_prog o ≡ true → IsTrue (is_reached s (Prog q))
    by None is live = cc
    by (Some p) is live = h.progs q p is live

-- and what it links to is live
pub next_live : (s : State) → IsSettled s → (from to : Target) → IsTrue (is_live_in s from) → Contains (links_of s) (from, to) → IsTrue (is_live_in s to)
next_live s h from to live there = h.only to (next_reached s from to (live_reached s h from live) there)

pub root_live : (s : State) → IsSettled s → (t : Target) → IsRoot s.pins s.devices t → IsTrue (is_live_in s t)
root_live s h t root = h.only t (root_reached s t root)
