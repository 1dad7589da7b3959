-- Entries in ascending order of their keys: what stands at a place, and what an edit there does to the finite map.
use Rattle.std.proofs.Common.{◌≡◌, ◌≢◌, ℕ, zero, suc, ◌<◌, Bool, true, false, not, ◌&&◌, List, [], ◌∷◌, length, get_or, set, map as each, Some, None, cond, T, refl, sym, ap, subst, ◌∙◌, arith}
use Rattle.std.specs.declared.cmp.Ordering.{Ordering}
use Rattle.std.specs.declared.cmp.Ordering.TheVariants.{Less, Equal, Greater}
use Rattle.std.specs.Ordering.{is_eq, is_lt, eq_by_cmp, ordering_reverse}
use Rattle.std.specs.Cmp.{tied_itself}
use Rattle.std.specs.Cmp.Lexicographic.{nat_list_cmp_total}
use Rattle.std.specs.List.{insert, remove, slice_get, find as first_where}
use Rattle.std.specs.FinMap.Entries.{put, find, where_key, below_all, by_order, is_sorted}
use Rattle.map_table.specs.Order.{key_cmp, Rises, IsGap}
use Rattle.map_table.proofs.Searched.{same_of_equal}

abbrev pub Listed : Type 0
Listed = List (List ℕ × List ℕ)

abbrev pub keys_of : Listed → List (List ℕ)
keys_of es = each (λ e. e.0) es

abbrev pub IsSorted : Listed → Type 0
IsSorted es = is_sorted key_cmp es ≡ true

pub holds : (b : Bool) → b ≡ true → T b
holds b e = subst T (sym e) tt

pub told : (b : Bool) → T b → b ≡ true
told true h = refl
told false h = absurd h

first : (a b : Bool) → a && b ≡ true → a ≡ true
first true b p = refl
first false b p = cc

second : (a b : Bool) → a && b ≡ true → b ≡ true
second true b p = p
second false b p = cc

less : (o : Ordering) → is_lt o ≡ true → o ≡ Less
less Less p = refl
less Equal p = cc
less Greater p = cc

-- ---- the keys rise
below_each : (k : List ℕ) (es : Listed) (j : ℕ) → below_all key_cmp k es ≡ true → j < length (keys_of es) → key_cmp k (get_or (keys_of es) j []) ≡ Less
below_each k [] j h lt = absurd (omega arith)
below_each k (e ∷ es) zero h lt = less _ (first _ _ h)
below_each k (e ∷ es) (suc j) h lt = below_each k es j (second _ _ h) (omega arith)

pub rises : (es : Listed) → IsSorted es → Rises (keys_of es)
rises [] h i j lt within = absurd (omega arith)
rises (e ∷ es) h zero zero lt within = absurd (omega arith)
rises (e ∷ es) h zero (suc j) lt within = below_each e.0 es j (first _ _ h) (omega arith)
rises (e ∷ es) h (suc i) zero lt within = absurd (omega arith)
rises (e ∷ es) h (suc i) (suc j) lt within = rises es (second _ _ h) i j (omega arith) (omega arith)

-- ---- places by recursion
-- the entry i has the key k, and those before it have keys below
abbrev pub Stands : List ℕ → Listed → ℕ → Type 0
Stands k [] i = ⊥
Stands k (e ∷ es) zero = key_cmp k e.0 ≡ Equal
Stands k (e ∷ es) (suc i) = (key_cmp k e.0 ≡ Greater) × Stands k es i

-- no entry has the key k, and i is the place for it
abbrev pub Falls : List ℕ → Listed → ℕ → Type 0
Falls k [] zero = Unit {0}
Falls k [] (suc i) = ⊥
Falls k (e ∷ es) zero = key_cmp k e.0 ≡ Less
Falls k (e ∷ es) (suc i) = (key_cmp k e.0 ≡ Greater) × Falls k es i

above : (x y : List ℕ) → key_cmp x y ≡ Less → key_cmp y x ≡ Greater
above x y e = nat_list_cmp_total.antisymm y x ∙ ap ordering_reverse e

pub stands : (k : List ℕ) (es : Listed) (i : ℕ) → IsSorted es → i < length (keys_of es) → get_or (keys_of es) i [] ≡ k → Stands k es i
stands k [] i h lt is = absurd (omega arith)
stands k (e ∷ es) zero h lt is = ap (key_cmp k) is ∙ tied_itself nat_list_cmp_total k
stands k (e ∷ es) (suc i) h lt is =
    (above e.0 k (ap (key_cmp e.0) (sym is) ∙ below_each e.0 es i (first _ _ h) (omega arith)), stands k es i (second _ _ h) (omega arith) is)

pub falls : (k : List ℕ) (es : Listed) (i : ℕ) → IsGap (keys_of es) k i → Falls k es i
falls k [] zero g = tt
falls k [] (suc i) g = absurd (omega (arith, g.within))
falls k (e ∷ es) zero g = g.higher 0 (omega arith) (omega arith)
falls k (e ∷ es) (suc i) g = (
  above e.0 k (g.lower 0 (omega arith)),
  falls k es i (record { within = omega (arith, g.within); lower = λ j lt. g.lower (suc j) (omega arith); higher = λ j le lt. g.higher (suc j) (omega arith) (omega arith) }),
)

-- ---- what is found, and what edits are
pub find_at_place : (k : List ℕ) (es : Listed) (i : ℕ) (d : List ℕ × List ℕ) → Stands k es i → find key_cmp k es ≡ Some (get_or es i d).1
find_at_place k [] i d p = absurd p
find_at_place k (e ∷ es) zero d p = ap (λ o. cond (is_eq o) (Some e.1) (find key_cmp k es)) p
find_at_place k (e ∷ es) (suc i) d p = ap (λ o. cond (is_eq o) (Some e.1) (find key_cmp k es)) p.0 ∙ find_at_place k es i d p.1

none_below : (k x : List ℕ) (es : Listed) → key_cmp k x ≡ Less → below_all key_cmp x es ≡ true → find key_cmp k es ≡ None
none_below k x [] lt h = refl
none_below k x (e ∷ es) lt h =
    let step : key_cmp k e.0 ≡ Less = nat_list_cmp_total.trans k x e.0 lt (less _ (first _ _ h)) in
    ap (λ o. cond (is_eq o) (Some e.1) (find key_cmp k es)) step ∙ none_below k x es lt (second _ _ h)

pub find_at_gap : (k : List ℕ) (es : Listed) (i : ℕ) → IsSorted es → Falls k es i → find key_cmp k es ≡ None
find_at_gap k [] i s p = refl
find_at_gap k (e ∷ es) zero s p = ap (λ o. cond (is_eq o) (Some e.1) (find key_cmp k es)) p ∙ none_below k e.0 es p (first _ _ s)
find_at_gap k (e ∷ es) (suc i) s p = ap (λ o. cond (is_eq o) (Some e.1) (find key_cmp k es)) p.0 ∙ find_at_gap k es i (second _ _ s) p.1

pub find_absent : (k : List ℕ) (es : Listed) → ((i : ℕ) → i < length (keys_of es) → get_or (keys_of es) i [] ≢ k) → find key_cmp k es ≡ None
find_absent k [] other = refl
find_absent k (e ∷ es) other = cases (key_cmp k e.0) refl (find_absent k es (λ i lt. other (suc i) (omega arith)))
  where
    cases : (o : Ordering) → key_cmp k e.0 ≡ o → find key_cmp k es ≡ None → cond (is_eq (key_cmp k e.0)) (Some e.1) (find key_cmp k es) ≡ None
    cases Less is rest = ap (λ o. cond (is_eq o) (Some e.1) (find key_cmp k es)) is ∙ rest
    cases Equal is rest = absurd (other 0 (omega arith) (sym (same_of_equal k e.0 is)))
    cases Greater is rest = ap (λ o. cond (is_eq o) (Some e.1) (find key_cmp k es)) is ∙ rest

pub put_at_place : (k v : List ℕ) (es : Listed) (i : ℕ) (d : List ℕ × List ℕ) → Stands k es i → put key_cmp k v es ≡ set es i ((get_or es i d).0, v)
put_at_place k v [] i d p = absurd p
put_at_place k v (e ∷ es) zero d p = ap (λ o. by_order o ((k, v) ∷ e ∷ es) ((e.0, v) ∷ es) (e ∷ put key_cmp k v es)) p
put_at_place k v (e ∷ es) (suc i) d p = ap (λ o. by_order o ((k, v) ∷ e ∷ es) ((e.0, v) ∷ es) (e ∷ put key_cmp k v es)) p.0 ∙ ap (λ l. e ∷ l) (put_at_place k v es i d p.1)

pub put_at_gap : (k v : List ℕ) (es : Listed) (i : ℕ) → Falls k es i → put key_cmp k v es ≡ insert es i (k, v)
put_at_gap k v [] zero p = refl
put_at_gap k v [] (suc i) p = absurd p
put_at_gap k v (e ∷ es) zero p = ap (λ o. by_order o ((k, v) ∷ e ∷ es) ((e.0, v) ∷ es) (e ∷ put key_cmp k v es)) p
put_at_gap k v (e ∷ es) (suc i) p = ap (λ o. by_order o ((k, v) ∷ e ∷ es) ((e.0, v) ∷ es) (e ∷ put key_cmp k v es)) p.0 ∙ ap (λ l. e ∷ l) (put_at_gap k v es i p.1)

abbrev pub differs : List ℕ → List ℕ → Bool
differs k x = not (eq_by_cmp key_cmp k x)

-- keys above the first all differ from it
keeps_above : (k x : List ℕ) (es : Listed) → key_cmp k x ≡ Equal → below_all key_cmp x es ≡ true → where_key key_cmp (differs k) es ≡ es
keeps_above k x [] e h = refl
keeps_above k x (y ∷ es) e h =
    let step : key_cmp k y.0 ≡ Less = nat_list_cmp_total.congr k x y.0 e ∙ less _ (first _ _ h) in
    ap (λ o. cond (not (is_eq o)) (y ∷ where_key key_cmp (differs k) es) (where_key key_cmp (differs k) es)) step
    ∙ ap (λ l. y ∷ l) (keeps_above k x es e (second _ _ h))

pub drop_at_place : (k : List ℕ) (es : Listed) (i : ℕ) → IsSorted es → Stands k es i → where_key key_cmp (differs k) es ≡ remove es i
drop_at_place k [] i s p = absurd p
drop_at_place k (e ∷ es) zero s p =
    ap (λ o. cond (not (is_eq o)) (e ∷ where_key key_cmp (differs k) es) (where_key key_cmp (differs k) es)) p ∙ keeps_above k e.0 es p (first _ _ s)
drop_at_place k (e ∷ es) (suc i) s p =
    ap (λ o. cond (not (is_eq o)) (e ∷ where_key key_cmp (differs k) es) (where_key key_cmp (differs k) es)) p.0
    ∙ ap (λ l. e ∷ l) (drop_at_place k es i (second _ _ s) p.1)

-- the first key above the one at a place comes right after it
pub next_suc : (k : List ℕ) (es : Listed) (i : ℕ) → IsSorted es → Stands k es i → first_where (λ other. is_lt (key_cmp k other)) (keys_of es) ≡ slice_get (keys_of es) (suc i)
next_suc k [] i s p = absurd p
next_suc k (e ∷ []) zero s p = ap (λ o. cond (is_lt o) (Some e.0) None) p
next_suc k (e ∷ y ∷ es) zero s p =
    let step : key_cmp k y.0 ≡ Less = nat_list_cmp_total.congr k e.0 y.0 p ∙ less _ (first _ _ (first _ _ s)) in
    ap (λ o. cond (is_lt o) (Some e.0) (first_where (λ other. is_lt (key_cmp k other)) (keys_of (y ∷ es)))) p
    ∙ ap (λ o. cond (is_lt o) (Some y.0) (first_where (λ other. is_lt (key_cmp k other)) (keys_of es))) step
next_suc k (e ∷ es) (suc i) s p =
    ap (λ o. cond (is_lt o) (Some e.0) (first_where (λ other. is_lt (key_cmp k other)) (keys_of es))) p.0 ∙ next_suc k es i (second _ _ s) p.1

-- the first key above one that would go to a place stands there
pub next_gap : (k : List ℕ) (es : Listed) (i : ℕ) → Falls k es i → first_where (λ other. is_lt (key_cmp k other)) (keys_of es) ≡ slice_get (keys_of es) i
next_gap k [] zero p = refl
next_gap k [] (suc i) p = absurd p
next_gap k (e ∷ es) zero p = ap (λ o. cond (is_lt o) (Some e.0) (first_where (λ other. is_lt (key_cmp k other)) (keys_of es))) p
next_gap k (e ∷ es) (suc i) p =
    ap (λ o. cond (is_lt o) (Some e.0) (first_where (λ other. is_lt (key_cmp k other)) (keys_of es))) p.0 ∙ next_gap k es i p.1
