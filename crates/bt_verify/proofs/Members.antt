-- The list of maps by its members: looking an id up finds just the pair that is in it.
use Rattle.std.proofs.Common.{◌≡◌, ◌≢◌, ℕ, zero, suc, ◌<◌, ◌≤◌, List, [], ◌∷◌, length, get_or, true, false, ltb, ltb-true, ltb-false, Option, Some, None, inl, inr, refl, sym, ap, ◌∙◌, arith}
use Rattle.std.specs.Prelude.{All, Contains, IfSome, IfNone, IsSome}
use Rattle.std.specs.List.Sorted.{IsNonDecreasingBy, IsPartitionPoint}
use Rattle.std.proofs.lemmas.Bool.{cases_eq, cases_lt}
use Rattle.std.proofs.lemmas.List.Kept.{AllPairs-cons}
use Rattle.std.proofs.lemmas.List.Elements.{All-nil, All-cons}
use Rattle.std.proofs.lemmas.Option.{slice_get_within}
use Rattle.bt_mapkind.specs.declared.attr.MapAttr.{MapAttr}
use Rattle.bt_verify.specs.declared.slot.Slot.{Slot}
use Rattle.bt_verify.specs.Maps.{AreDistinct, AreAscending, AreNamed, IsNamed, find_map}
use Rattle.bt_verify.proofs.Pairs.{find_here, find_past, find_none, AllAbove, Climb, AreNamedBelow}

abbrev Pair : Type 0
Pair = ℕ × MapAttr

abbrev just_attr : MapAttr → Option MapAttr
just_attr a = Some a

attr_same : (a b : MapAttr) → just_attr a ≡ just_attr b → a ≡ b
attr_same a b e = cc

none_some : (o : Option MapAttr) (a : MapAttr) → o ≡ None → o ≡ Some a → ⊥
none_some o a e f = cc

pair_same : (x : Pair) (id : ℕ) (a : MapAttr) → x.0 ≡ id → x.1 ≡ a → x ≡ (id, a)
pair_same x id a e f = ap (λ (n : ℕ). (n, x.1)) e ∙ ap (λ (b : MapAttr). (id, b)) f

-- what is found is in the list
pub found_in : (maps : List Pair) (id : ℕ) (a : MapAttr) → find_map maps id ≡ Some a → Contains maps (id, a)
found_in [] id a e = absurd (none_some (find_map [] id) a (find_none id) e)
found_in (x ∷ xs) id a e =
    elim (cases_eq (x.0) id) [
      | inl same ↦ (0, omega arith, pair_same x id a same (attr_same x.1 a (sym (find_here x xs id same) ∙ e)))
      | inr ne ↦ (let c = found_in xs id a (sym (find_past x xs id ne) ∙ e) in (suc c.0, omega (arith, c.1), c.2))
    ]

-- the first pair with an id is found
first_found : (maps : List Pair) (k id : ℕ) (d : Pair) → k < length maps → ((j : ℕ) → j < k → (get_or maps j d).0 ≢ id) → (get_or maps k d).0 ≡ id → find_map maps id ≡ Some ((get_or maps k d).1)
first_found [] k id d lt before e = absurd (omega arith)
first_found (x ∷ xs) zero id d lt before e = find_here x xs id e
first_found (x ∷ xs) (suc k) id d lt before e =
    find_past x xs id (before 0 (omega arith)) ∙ first_found xs k id d (omega arith) (λ j l. before (suc j) (omega arith)) e

-- if no id stands twice, each pair is
pub place_found : (maps : List Pair) (k id : ℕ) (d : Pair) → AreDistinct maps → k < length maps → (get_or maps k d).0 ≡ id → find_map maps id ≡ Some ((get_or maps k d).1)
place_found maps k id d apart lt e = first_found maps k id d lt (λ j l f. apart j k d l lt (f ∙ sym e)) e

pub in_found : (maps : List Pair) (id : ℕ) (a : MapAttr) → AreDistinct maps → Contains maps (id, a) → find_map maps id ≡ Some a
in_found maps id a apart c = place_found maps c.0 id (id, a) apart c.1 (ap (λ (p : Pair). p.0) c.2) ∙ ap (λ (p : Pair). just_attr p.1) c.2

pub none_in : (maps : List Pair) (id : ℕ) → AreDistinct maps → find_map maps id ≡ None → All (λ (m : Pair). m.0 ≢ id) maps
none_in maps id apart none = λ k d lt e. none_some (find_map maps id) _ none (place_found maps k id d apart lt e)

pub found_is_in : (maps : List Pair) (id : ℕ) (o : Option MapAttr) → o ≡ find_map maps id → IfSome o (λ (a : MapAttr). Contains maps (id, a))
found_is_in maps id (Some a) e = found_in maps id a (sym e)
found_is_in maps id None e = tt

pub none_is_in : (maps : List Pair) (id : ℕ) (o : Option MapAttr) → AreDistinct maps → o ≡ find_map maps id → IfNone o (All (λ (m : Pair). m.0 ≢ id) maps)
none_is_in maps id (Some a) apart e = tt
none_is_in maps id None apart e = none_in maps id apart (sym e)

-- ---- ids that ascend

all_above : (b c : ℕ) (xs : List Pair) → c ≤ b → AllAbove b xs → All (λ (m : Pair). c < m.0) xs
all_above b c [] le a = All-nil (λ (m : Pair). c < m.0)
all_above b c (x ∷ xs) le a = All-cons (λ (m : Pair). c < m.0) x xs (omega (arith, le, a.0)) (all_above (x.0) c xs (omega (arith, le, a.0)) a.1)

climb_rest : (x : Pair) (xs : List Pair) → Climb (x ∷ xs) → Climb xs
climb_rest x [] a = tt
climb_rest x (y ∷ ys) a = a.1

ascending : (xs : List Pair) → Climb xs → AreAscending xs
ascending [] a = λ i j d lt in'. absurd (omega arith)
ascending (x ∷ xs) a =
    AllPairs-cons (λ (m n : Pair). m.0 < n.0) x xs (all_above (x.0) (x.0) xs (omega arith) a) (ascending xs (climb_rest x xs a))

pub distinct : (xs : List Pair) → AreAscending xs → AreDistinct xs
distinct xs up = λ i j d lt in'. (let h = up i j d lt in' in λ e. omega (arith, h, e))

nat_le : (m n : ℕ) → m ≡ n → m ≤ n
nat_le m n e = omega (arith, e)

pub rising : (xs : List Pair) → AreAscending xs → IsNonDecreasingBy (λ (m : Pair). m.0) xs
rising xs up = λ i j d le lt. elim (cases_eq i j) [
  | inl e ↦ nat_le _ _ (ap (λ (k : ℕ). (get_or xs k d).0) e)
  | inr ne ↦ (let h = up i j d (omega (arith, le, ne)) lt in omega (arith, h))
]

-- an id that does not stand between the lower ones and the others stands nowhere
pub none_by_halves : (xs : List Pair) (id place : ℕ) → AreAscending xs → IsPartitionPoint (λ (m : Pair). ltb m.0 id ≡ true) (λ (m : Pair). ltb m.0 id ≡ false) xs place → ((d : Pair) → place < length xs → (get_or xs place d).0 ≢ id) → All (λ (m : Pair). m.0 ≢ id) xs
none_by_halves xs id place up halves here = λ k d lt e. elim (cases_lt k place) [
  | inl below ↦ (let h = ltb-true _ _ (halves.0 k d (omega arith) below) in omega (arith, h, e))
  | inr ge ↦ elim (cases_eq k place) [
    | inl same ↦ here d (rw same at lt) (rw same at e)
    | inr ne ↦
        (let above = up place k d (omega (arith, ge, ne)) lt in
        let at_least = ltb-false _ _ (halves.1 place d (omega arith) (omega (arith, ge, lt))) in
        omega (arith, above, at_least, e))
  ]
]

-- ---- the maps that a program names

some_is : (o : Option MapAttr) (a : MapAttr) → o ≡ Some a → IsSome o
some_is o a e = rw e refl

pub all_named : (code : List Slot) (i : ℕ) (list maps : List Pair) → AreDistinct list → length code ≤ i → AreNamedBelow code i list maps → AreNamed code list maps
all_named code i list maps apart past h = record {
  ascending = up;
  exactly = λ m. (λ c. forth m c, λ c. back m c.0 c.1);
}
  where
    up : AreAscending maps
    up = ascending maps h.ascending

    forth : (m : Pair) → Contains maps m → Contains list m × IsNamed code m.0
    forth m c =
        let found : find_map maps m.0 ≡ Some m.1 = in_found maps m.0 m.1 (distinct maps up) c in
        let some : IsSome (find_map maps m.0) = some_is (find_map maps m.0) m.1 found in
        (found_in list m.0 m.1 (sym (h.of_list m.0 some) ∙ found), h.named m.0 some)

    back : (m : Pair) → Contains list m → IsNamed code m.0 → Contains maps m
    back m c n =
        let place : n.0 < i = omega (arith, past, slice_get_within code (n.0) _ n.2) in
        found_in maps m.0 m.1 (h.same m.0 (n.0, place, n.1, n.2) ∙ in_found list m.0 m.1 apart c)

-- a named id is found in them as it is in the list
pub same_found : (code : List Slot) (list maps : List Pair) (id : ℕ) → AreDistinct list → AreNamed code list maps → IsNamed code id → find_map maps id ≡ find_map list id
same_found code list maps id apart n here = from (find_map list id) refl (find_map maps id) refl
  where
    from : (o : Option MapAttr) → find_map list id ≡ o → (p : Option MapAttr) → find_map maps id ≡ p → find_map maps id ≡ find_map list id
    from (Some a) e p f = in_found maps id a (distinct maps n.ascending) ((n.exactly (id, a)).1 (found_in list id a e, here)) ∙ sym e
    from None e None f = f ∙ sym e
    from None e (Some a) f =
        absurd (none_some (find_map list id) a e (in_found list id a apart ((n.exactly (id, a)).0 (found_in maps id a f)).0))
