-- The list of maps, looked through from the front.
use Rattle.std.proofs.Common.{◌≡◌, ℕ, zero, suc, ◌+◌, ◌<◌, ◌≤◌, List, [], ◌∷◌, length, take, drop, set, get_or, Option, Some, None, ◌++◌, inl, inr, refl, sym, ap, subst, ◌∙◌, add-one, drop-cons, length-drop, arith}
use Rattle.std.specs.Prelude.{true, false, ◌==◌, nat_lt, if◌then◌else◌}
use Rattle.std.proofs.lemmas.Bool.Decides.{nat_tests}
use Rattle.std.proofs.lemmas.Bool.{cases_eq, cases_lt}
use Rattle.std.proofs.lemmas.Option.{get_or_from_slice_get}
use Rattle.std.specs.Prelude.{slice_get, IsSome}
use Rattle.bt_insn.specs.declared.register.Register.{Register}
use Rattle.bt_insn.specs.declared.insn.Insn.TheVariants.{Alu, Neg, MoveSigned, ByteSwap, Jump, JumpIf, Call, Exit, LoadImmediate, LoadMap, Load, LoadSigned, Store, Atomic}
use Rattle.bt_verify.specs.declared.slot.Slot.{Slot}
use Rattle.bt_verify.specs.declared.slot.Slot.TheVariants.{First, Second}
use Rattle.bt_mapkind.specs.declared.attr.MapAttr.{MapAttr}
use Rattle.bt_verify.specs.Maps.{find_map, with_map, map_of, with_id, IsNamed}

eq_true : (a b : ℕ) → a ≡ b → (a == b) ≡ true
eq_true a b e = grind (arith, nat_tests)

eq_false : (a b : ℕ) → (a ≡ b → ⊥) → (a == b) ≡ false
eq_false a b e = grind (arith, nat_tests)

find_step : (maps : List (ℕ × MapAttr)) (i id : ℕ) (d : ℕ × MapAttr) → i < length maps → find_map (drop i maps) id ≡ (if (get_or maps i d).0 == id then Some ((get_or maps i d).1) else find_map (drop (i + 1) maps) id)
unfolding find_map
find_step maps i id d h = rw (add-one, drop-cons maps i d) refl

pub found : (maps : List (ℕ × MapAttr)) (i id : ℕ) (d : ℕ × MapAttr) → i < length maps → (get_or maps i d).0 ≡ id → find_map (drop i maps) id ≡ Some ((get_or maps i d).1)
found maps i id d h e = find_step maps i id d h ∙ rw (eq_true ((get_or maps i d).0) id e) refl

pub passed : (maps : List (ℕ × MapAttr)) (i id : ℕ) (d : ℕ × MapAttr) → i < length maps → ((get_or maps i d).0 ≡ id → ⊥) → find_map (drop i maps) id ≡ find_map (drop (i + 1) maps) id
passed maps i id d h e = find_step maps i id d h ∙ rw (eq_false ((get_or maps i d).0) id e) refl

none_left : (maps : List (ℕ × MapAttr)) (id : ℕ) → length maps ≡ 0 → find_map maps id ≡ None
unfolding find_map
none_left [] id e = refl
none_left (m ∷ maps) id e = absurd (omega (arith, e))

pub ended : (maps : List (ℕ × MapAttr)) (i id : ℕ) → length maps ≤ i → find_map (drop i maps) id ≡ None
ended maps i id h = none_left (drop i maps) id (omega (arith, length-drop i maps))

-- ---- where a pair has its place

abbrev Pair : Type 0
Pair = ℕ × MapAttr

lt_true : (a b : ℕ) → a < b → nat_lt a b ≡ true
lt_true a b h = grind (arith, nat_tests)

lt_false : (a b : ℕ) → b ≤ a → nat_lt a b ≡ false
lt_false a b h = grind (arith, nat_tests)

pub below_at : (maps : List Pair) (i id : ℕ) (d m : Pair) → (get_or maps i d).0 < id → slice_get maps i ≡ Some m → m.0 < id
below_at maps i id d m h e = let g = get_or_from_slice_get maps i m d e in rw g at h

pub not_below_at : (maps : List Pair) (i id : ℕ) (d m : Pair) → id ≤ (get_or maps i d).0 → slice_get maps i ≡ Some m → id ≤ m.0
not_below_at maps i id d m h e = let g = get_or_from_slice_get maps i m d e in rw g at h

with_below : (m x : Pair) (xs : List Pair) → x.0 < m.0 → with_map m (x ∷ xs) ≡ x ∷ with_map m xs
unfolding with_map
with_below m x xs h = rw (lt_true (x.0) (m.0) h) refl

with_equal : (m x : Pair) (xs : List Pair) → m.0 ≡ x.0 → with_map m (x ∷ xs) ≡ m ∷ xs
unfolding with_map
with_equal m x xs h = rw (lt_false (x.0) (m.0) (omega arith), eq_true (m.0) (x.0) h) refl

with_above : (m x : Pair) (xs : List Pair) → m.0 < x.0 → with_map m (x ∷ xs) ≡ m ∷ x ∷ xs
unfolding with_map
with_above m x xs h = rw (lt_false (x.0) (m.0) (omega arith), eq_false (m.0) (x.0) (λ e. omega arith)) refl

with_none : (m : Pair) → with_map m [] ≡ m ∷ []
unfolding with_map
with_none m = refl

pub record StandBelow (xs : List Pair) (p id : ℕ) : Type 0 where
  pub each : (k : ℕ) (x : Pair) → k < p → slice_get xs k ≡ Some x → x.0 < id

rest_below : (x : Pair) (xs : List Pair) (p id : ℕ) → StandBelow (x ∷ xs) (suc p) id → StandBelow xs p id
rest_below x xs p id h = record { each = λ k y lt e. h.each (suc k) y (omega arith) e }

pub insert_at : (xs : List Pair) (p : ℕ) (m : Pair) → StandBelow xs p m.0 → p ≤ length xs → ((x : Pair) → slice_get xs p ≡ Some x → m.0 < x.0) → take p xs ++ m ∷ drop p xs ≡ with_map m xs
insert_at [] zero m b w s = sym (with_none m)
insert_at [] (suc p) m b w s = absurd (omega arith)
insert_at (x ∷ xs) zero m b w s = sym (with_above m x xs (s x refl))
insert_at (x ∷ xs) (suc p) m b w s =
    ap (λ (ys : List Pair). x ∷ ys) (insert_at xs p m (rest_below x xs p (m.0) b) (omega arith) s)
    ∙ sym (with_below m x xs (b.each 0 x (omega arith) refl))

pub is_above : (xs : List Pair) (p : ℕ) (m x y : Pair) → m.0 ≤ x.0 → slice_get xs p ≡ Some x → slice_get xs p ≡ Some y → (y.0 ≡ m.0 → ⊥) → m.0 < x.0
is_above xs p m x y h e f ne = let same : x ≡ y = cc in omega (arith, h, ap (λ (z : Pair). z.0) same, ne)

pub set_at : (xs : List Pair) (p : ℕ) (m x : Pair) → StandBelow xs p m.0 → slice_get xs p ≡ Some x → m.0 ≡ x.0 → set xs p m ≡ with_map m xs
set_at [] p m x b s e = absurd cc
set_at (y ∷ ys) zero m x b s e = let same : y ≡ x = cc in sym (with_equal m y ys (rw same e))
set_at (y ∷ ys) (suc p) m x b s e =
    ap (λ (zs : List Pair). y ∷ zs) (set_at ys p m x (rest_below y ys p (m.0) b) s e)
    ∙ sym (with_below m y ys (b.each 0 y (omega arith) refl))

-- ---- what a list with a pair more has

pub find_here : (x : Pair) (xs : List Pair) (id : ℕ) → x.0 ≡ id → find_map (x ∷ xs) id ≡ Some x.1
unfolding find_map
find_here x xs id e = rw (eq_true (x.0) id e) refl

pub find_past : (x : Pair) (xs : List Pair) (id : ℕ) → (x.0 ≡ id → ⊥) → find_map (x ∷ xs) id ≡ find_map xs id
unfolding find_map
find_past x xs id e = rw (eq_false (x.0) id e) refl

pub find_none : (id : ℕ) → find_map [] id ≡ None
unfolding find_map
find_none id = refl

pub find_same : (m : Pair) (xs : List Pair) → find_map (with_map m xs) m.0 ≡ Some m.1
find_same m [] = rw (with_none m) (find_here m [] (m.0) refl)
find_same m (x ∷ xs) =
    elim (cases_lt (x.0) (m.0)) [
      | inl lt ↦ rw (with_below m x xs lt) (find_past x (with_map m xs) (m.0) (λ e. omega arith) ∙ find_same m xs)
      | inr ge ↦ elim (cases_eq (m.0) (x.0)) [
        | inl e ↦ rw (with_equal m x xs e) (find_here m xs (m.0) refl)
        | inr ne ↦ rw (with_above m x xs (omega (arith, ge, ne))) (find_here m (x ∷ xs) (m.0) refl)
      ]
    ]

pub find_other : (m : Pair) (xs : List Pair) (id : ℕ) → (m.0 ≡ id → ⊥) → find_map (with_map m xs) id ≡ find_map xs id
find_other m [] id ne = rw (with_none m) (find_past m [] id ne)
find_other m (x ∷ xs) id ne =
    elim (cases_lt (x.0) (m.0)) [
      | inl lt ↦ rw (with_below m x xs lt) (elim (cases_eq (x.0) id) [
        | inl e ↦ find_here x (with_map m xs) id e ∙ sym (find_here x xs id e)
        | inr apart ↦ find_past x (with_map m xs) id apart ∙ find_other m xs id ne ∙ sym (find_past x xs id apart)
      ])
      | inr ge ↦ elim (cases_eq (m.0) (x.0)) [
        | inl e ↦ rw (with_equal m x xs e) (find_past m xs id ne ∙ sym (find_past x xs id (λ g. ne (e ∙ g))))
        | inr apart ↦ rw (with_above m x xs (omega (arith, ge, apart))) (find_past m (x ∷ xs) id ne)
      ]
    ]

-- each id is above the one before
abbrev pub AllAbove : ℕ → List Pair → Type 0
AllAbove id [] = Unit {0}
AllAbove id (m ∷ maps) = (id < m.0) × AllAbove m.0 maps

abbrev pub Climb : List Pair → Type 0
Climb [] = Unit {0}
Climb (m ∷ maps) = AllAbove m.0 maps

stays_above : (m : Pair) (xs : List Pair) (b : ℕ) → b < m.0 → AllAbove b xs → AllAbove b (with_map m xs)
stays_above m [] b h a = rw (with_none m) (h, tt)
stays_above m (x ∷ xs) b h a =
    elim (cases_lt (x.0) (m.0)) [
      | inl lt ↦ rw (with_below m x xs lt) (a.0, stays_above m xs (x.0) lt a.1)
      | inr ge ↦ elim (cases_eq (m.0) (x.0)) [
        | inl e ↦ rw (with_equal m x xs e) (h, rw e a.1)
        | inr apart ↦ rw (with_above m x xs (omega (arith, ge, apart))) (h, (omega (arith, ge, apart), a.1))
      ]
    ]

stays_ascending : (m : Pair) (xs : List Pair) → Climb xs → Climb (with_map m xs)
stays_ascending m [] a = rw (with_none m) tt
stays_ascending m (x ∷ xs) a =
    elim (cases_lt (x.0) (m.0)) [
      | inl lt ↦ rw (with_below m x xs lt) (stays_above m xs (x.0) lt a)
      | inr ge ↦ elim (cases_eq (m.0) (x.0)) [
        | inl e ↦ rw (with_equal m x xs e) (rw e a)
        | inr apart ↦ rw (with_above m x xs (omega (arith, ge, apart))) (omega (arith, ge, apart), a)
      ]
    ]

-- ---- what the loop over the slots keeps

-- an instruction before slot i names this map
abbrev pub IsNamedBelow : List Slot → ℕ → ℕ → Type 0
IsNamedBelow code i id = (k : ℕ) × (k < i) × (dst : Register) × (slice_get code k ≡ Some (First (LoadMap dst id)))

-- the maps that are named so far as slot i
pub record AreNamedBelow (code : List Slot) (i : ℕ) (list maps : List Pair) : Type 0 where
  pub ascending : Climb maps
  pub named : (id : ℕ) → IsSome (find_map maps id) → IsNamed code id
  pub of_list : (id : ℕ) → IsSome (find_map maps id) → find_map maps id ≡ find_map list id
  pub same : (id : ℕ) → IsNamedBelow code i id → find_map maps id ≡ find_map list id

record Names (s : Slot) (list : List Pair) (m : Pair) : Type 0 where
  dst : Register
  is : s ≡ First (LoadMap dst m.0)
  found : find_map list m.0 ≡ Some m.1

id_of : (dst : Register) (id : ℕ) (list : List Pair) (o : Option MapAttr) (m : Pair) → find_map list id ≡ o → with_id id o ≡ Some m → Names (First (LoadMap dst id)) list m
id_of dst id list None m f e = absurd cc
id_of dst id list (Some a) m f e =
    let pair_is : (id, a) ≡ m = cc in
    let P : Pair → Type 0 = λ p. Names (First (LoadMap dst id)) list p in
    subst P pair_is (record { dst = dst; is = refl; found = f })

named_by : (s : Slot) (list : List Pair) (m : Pair) → map_of s list ≡ Some m → Names s list m
named_by (First (Alu w op d s)) list m e = absurd cc
named_by (First (Neg w d)) list m e = absurd cc
named_by (First (MoveSigned x d s)) list m e = absurd cc
named_by (First (ByteSwap o z d)) list m e = absurd cc
named_by (First (Jump d)) list m e = absurd cc
named_by (First (JumpIf w c d s o)) list m e = absurd cc
named_by (First (Call h)) list m e = absurd cc
named_by (First Exit) list m e = absurd cc
named_by (First (LoadImmediate d n)) list m e = absurd cc
named_by (First (Load z d s o)) list m e = absurd cc
named_by (First (LoadSigned z d s o)) list m e = absurd cc
named_by (First (Store z d s o)) list m e = absurd cc
named_by (First (Atomic w op d s o)) list m e = absurd cc
named_by (First (LoadMap dst id)) list m e = id_of dst id list (find_map list id) m refl e
named_by Second list m e = absurd cc

no_id : (id : ℕ) (o : Option MapAttr) → with_id id o ≡ None → o ≡ None
no_id id None e = refl
no_id id (Some a) e = absurd cc

is_none_else : (o : Option MapAttr) → (IsSome o → o ≡ None) → o ≡ None
is_none_else None h = refl
is_none_else (Some a) h = h refl

pub nothing_named : (code : List Slot) (list maps : List Pair) → maps ≡ [] → AreNamedBelow code 0 list maps
nothing_named code list maps e = record {
  ascending = rw e tt;
  named = λ id s. let n = rw (e, find_none) at s in absurd cc;
  of_list = λ id s. let n = rw (e, find_none) at s in absurd cc;
  same = λ id n. absurd (omega (arith, n.1));
}

pub none_more : (code : List Slot) (i : ℕ) (list maps : List Pair) (s : Slot) → AreNamedBelow code i list maps → slice_get code i ≡ Some s → map_of s list ≡ None → AreNamedBelow code (i + 1) list maps
none_more code i list maps s h here none = record {
  ascending = h.ascending;
  named = h.named;
  of_list = h.of_list;
  same = λ id n. elim (cases_eq (n.0) i) [
    | inl e ↦ at_here id n.2 (rw e at n.3)
    | inr ne ↦ h.same id (n.0, omega (arith, n.1, ne), n.2, n.3)
  ];
}
  where
    at_here : (id : ℕ) (dst : Register) → slice_get code i ≡ Some (First (LoadMap dst id)) → find_map maps id ≡ find_map list id
    at_here id dst e =
        let same : s ≡ First (LoadMap dst id) = cc in
        let gone : find_map list id ≡ None = no_id id (find_map list id) (rw same at none) in
        is_none_else (find_map maps id) (λ g. h.of_list id g ∙ gone) ∙ sym gone

abbrev first_slot : Register → ℕ → Option Slot
first_slot d id = Some (First (LoadMap d id))

same_id : (d e : Register) (a b : ℕ) → first_slot d a ≡ first_slot e b → a ≡ b
same_id d e a b p = cc

pub one_more : (code : List Slot) (i : ℕ) (list maps : List Pair) (s : Slot) (m : Pair) → AreNamedBelow code i list maps → slice_get code i ≡ Some s → map_of s list ≡ Some m → AreNamedBelow code (i + 1) list (with_map m maps)
one_more code i list maps s m h here e =
    let n = named_by s list m e in
    let stands : slice_get code i ≡ Some (First (LoadMap n.dst m.0)) = rw n.is at here in
    record {
      ascending = stays_ascending m maps h.ascending;
      named = λ id g. elim (cases_eq (m.0) id) [
        | inl same ↦ rw (← same) (i, n.dst, stands)
        | inr ne ↦ h.named id (rw (find_other m maps id ne) at g)
      ];
      of_list = λ id g. elim (cases_eq (m.0) id) [
        | inl same ↦ rw (← same) (find_same m maps ∙ sym n.found)
        | inr ne ↦ find_other m maps id ne ∙ h.of_list id (rw (find_other m maps id ne) at g)
      ];
      same = λ id g. elim (cases_eq (m.0) id) [
        | inl same ↦ rw (← same) (find_same m maps ∙ sym n.found)
        | inr ne ↦ find_other m maps id ne ∙ h.same id (earlier id ne stands g)
      ];
    }
  where
    earlier : {d : Register} (id : ℕ) → (m.0 ≡ id → ⊥) → slice_get code i ≡ Some (First (LoadMap d m.0)) → IsNamedBelow code (i + 1) id → IsNamedBelow code i id
    earlier {d} id ne stands g = elim (cases_eq (g.0) i) [
      | inl here_is ↦ absurd (ne (same_id d g.2 (m.0) id (sym stands ∙ rw here_is at g.3)))
      | inr apart ↦ (g.0, omega (arith, g.1, apart), g.2, g.3)
    ]
