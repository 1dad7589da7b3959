-- The indices of the filled slots rise, and what another id in a slot makes of them.
use Rattle.std.proofs.Common.{◌≡◌, ℕ, zero, suc, ◌+◌, ◌<◌, ◌≤◌, Bool, true, false, cond, nat_lt, if◌then◌else◌, List, [], ◌∷◌, ◌++◌, length, get_or, set, take, drop, Option, Some, None, is_some, refl, sym, ap, ap₂, subst, ◌∙◌, arith, take-append-drop, length-set, replicate, ◌⊎◌, inl, inr, le_of_eq, insert, remove}
use Rattle.std.specs.List.{filter, All}
use Rattle.std.proofs.lemmas.Bool.{cases_lt}
use Rattle.std.proofs.lemmas.Bool.Decides.{nat_tests}
use Rattle.std.proofs.lemmas.List.Edits.{length-insert}
use Rattle.std.proofs.lemmas.List.Elements.{All-nil, All-cons, All-head, All-tail, All-weaker, All-from_get_or}
use Rattle.map_order.specs.Order.{Ordered}
use Rattle.bt_nested.specs.Filled.{filled_from, filled, marked, Rises, IsAt, IsBefore}

-- the number itself, if it is to be there
abbrev pub one_if : Bool → ℕ → List ℕ
one_if there x = if there then x ∷ [] else []

-- ---- the indices rise
from_on : (n : ℕ) (ids : List (Option ℕ)) → All (λ k. n ≤ k) (filled_from n ids)
from_on n [] = All-nil (λ k. n ≤ k)
from_on n (Some id ∷ ids) =
    All-cons (λ k. n ≤ k) n (filled_from (n + 1) ids) (omega arith) (All-weaker (λ k. n + 1 ≤ k) (λ k. n ≤ k) (λ k h. omega arith) _ (from_on (n + 1) ids))
from_on n (None ∷ ids) = All-weaker (λ k. n + 1 ≤ k) (λ k. n ≤ k) (λ k h. omega arith) _ (from_on (n + 1) ids)

above : (n : ℕ) (ids : List (Option ℕ)) → All (λ k. n < k) (filled_from (n + 1) ids)
above n ids = All-weaker (λ k. n + 1 ≤ k) (λ k. n < k) (λ k h. omega arith) _ (from_on (n + 1) ids)

rises_behind : (x : ℕ) (xs : List ℕ) → All (λ k. x < k) xs → Rises xs → Rises (x ∷ xs)
rises_behind x xs all r zero zero lt within = absurd (omega arith)
rises_behind x xs all r zero (suc j) lt within = all j 0 (omega arith)
rises_behind x xs all r (suc i) zero lt within = absurd (omega arith)
rises_behind x xs all r (suc i) (suc j) lt within = r i j (omega arith) (omega arith)

rises_from : (n : ℕ) (ids : List (Option ℕ)) → Rises (filled_from n ids)
rises_from n [] = λ i j lt within. absurd (omega arith)
rises_from n (Some id ∷ ids) = rises_behind n (filled_from (n + 1) ids) (above n ids) (rises_from (n + 1) ids)
rises_from n (None ∷ ids) = rises_from (n + 1) ids

pub filled_rises : (listed : List ℕ) (ids : List (Option ℕ)) → listed ≡ filled ids → Rises listed
filled_rises listed ids is = subst Rises (sym is) (rises_from 0 ids)

-- ---- how many there are
length-filled_from : (n : ℕ) (ids : List (Option ℕ)) → length (filled_from n ids) ≤ length ids
length-filled_from n [] = omega arith
length-filled_from n (Some id ∷ ids) = let h : length (filled_from (n + 1) ids) ≤ length ids = length-filled_from (n + 1) ids in omega (arith, h)
length-filled_from n (None ∷ ids) = let h : length (filled_from (n + 1) ids) ≤ length ids = length-filled_from (n + 1) ids in omega (arith, h)

pub length-filled : (ids : List (Option ℕ)) → length (filled ids) ≤ length ids
length-filled ids = length-filled_from 0 ids

-- ---- a number put among others or taken from them
none_lower : (x : ℕ) (xs : List ℕ) → All (λ k. x ≤ k) xs → filter (λ y. nat_lt y x) xs ≡ []
none_lower x [] all = refl
none_lower x (y ∷ xs) all =
    let le : x ≤ y = All-head (λ k. x ≤ k) y xs all in
    let no : nat_lt y x ≡ false = grind (arith, nat_tests) in
    ap (λ b. cond b (y ∷ filter (λ z. nat_lt z x) xs) (filter (λ z. nat_lt z x) xs)) no ∙ none_lower x xs (All-tail (λ k. x ≤ k) y xs all)

all_higher : (x : ℕ) (xs : List ℕ) → All (λ k. x < k) xs → filter (λ y. nat_lt x y) xs ≡ xs
all_higher x [] all = refl
all_higher x (y ∷ xs) all =
    let lt : x < y = All-head (λ k. x < k) y xs all in
    let yes : nat_lt x y ≡ true = grind (arith, nat_tests) in
    ap (λ b. cond b (y ∷ filter (λ z. nat_lt x z) xs) (filter (λ z. nat_lt x z) xs)) yes ∙ ap (λ l. y ∷ l) (all_higher x xs (All-tail (λ k. x < k) y xs all))

not_lower : (x : ℕ) (xs : List ℕ) → All (λ k. x < k) xs → filter (λ y. nat_lt y x) xs ≡ []
not_lower x xs all = none_lower x xs (All-weaker (λ k. x < k) (λ k. x ≤ k) (λ k h. omega arith) xs all)

-- before all of them
marked_first : (x : ℕ) (xs : List ℕ) (there : Bool) → All (λ k. x < k) xs → marked xs x there ≡ one_if there x ++ xs
marked_first x xs there all = ap₂ (λ below over. below ++ (one_if there x ++ over)) (not_lower x xs all) (all_higher x xs all)

-- if it is the first
marked_head : (x : ℕ) (xs : List ℕ) (there : Bool) → All (λ k. x < k) xs → marked (x ∷ xs) x there ≡ one_if there x ++ xs
marked_head x xs there all =
    let no : nat_lt x x ≡ false = grind (arith, nat_tests) in
    ap (λ b. cond b (x ∷ filter (λ y. nat_lt y x) xs) (filter (λ y. nat_lt y x) xs) ++ (one_if there x ++ cond b (x ∷ filter (λ y. nat_lt x y) xs) (filter (λ y. nat_lt x y) xs))) no
    ∙ marked_first x xs there all

-- if the first is lower
marked_behind : (first x : ℕ) (xs : List ℕ) (there : Bool) → first < x → marked (first ∷ xs) x there ≡ first ∷ marked xs x there
marked_behind first x xs there lt =
    let yes : nat_lt first x ≡ true = grind (arith, nat_tests) in
    let no : nat_lt x first ≡ false = grind (arith, nat_tests) in
    ap₂ (λ b c. cond b (first ∷ filter (λ y. nat_lt y x) xs) (filter (λ y. nat_lt y x) xs) ++ (one_if there x ++ cond c (first ∷ filter (λ y. nat_lt x y) xs) (filter (λ y. nat_lt x y) xs))) yes no

-- ---- an id put into a slot, or taken from it
opened : (n : ℕ) (id : Option ℕ) (ids : List (Option ℕ)) → one_if (is_some id) n ++ filled_from (n + 1) ids ≡ filled_from n (id ∷ ids)
opened n None ids = refl
opened n (Some id) ids = refl

marked_here : (n : ℕ) (old id : Option ℕ) (ids : List (Option ℕ)) → marked (filled_from n (old ∷ ids)) n (is_some id) ≡ filled_from n (id ∷ ids)
marked_here n None id ids = marked_first n (filled_from (n + 1) ids) (is_some id) (above n ids) ∙ opened n id ids
marked_here n (Some old) id ids = marked_head n (filled_from (n + 1) ids) (is_some id) (above n ids) ∙ opened n id ids

marked_later : (n i : ℕ) (first : Option ℕ) (ids : List (Option ℕ)) (there : Bool) → n < i → marked (filled_from n (first ∷ ids)) i there ≡ one_if (is_some first) n ++ marked (filled_from (n + 1) ids) i there
marked_later n i None ids there lt = refl
marked_later n i (Some first) ids there lt = marked_behind n i (filled_from (n + 1) ids) there lt

marked_slot : (n i at : ℕ) (ids : List (Option ℕ)) (id : Option ℕ) → i < length ids → at ≡ n + i → marked (filled_from n ids) at (is_some id) ≡ filled_from n (set ids i id)
marked_slot n i at [] id within is = absurd (omega arith)
marked_slot n zero at (old ∷ ids) id within is =
    let same : at ≡ n = omega arith in
    ap (λ k. marked (filled_from n (old ∷ ids)) k (is_some id)) same ∙ marked_here n old id ids
marked_slot n (suc i) at (first ∷ ids) id within is =
    let later : n < at = omega arith in
    let next : at ≡ n + 1 + i = omega arith in
    marked_later n at first ids (is_some id) later
    ∙ ap (λ l. one_if (is_some first) n ++ l) (marked_slot (n + 1) i at ids id (omega arith) next)
    ∙ opened n first (set ids i id)

pub marked_filled : (listed : List ℕ) (ids : List (Option ℕ)) (index : ℕ) (id : Option ℕ) → listed ≡ filled ids → index < length ids → marked listed index (is_some id) ≡ filled (set ids index id)
marked_filled listed ids index id is within = ap (λ l. marked l index (is_some id)) is ∙ marked_slot 0 index index ids id within (omega arith)

pub marked_fits : (listed : List ℕ) (ids : List (Option ℕ)) (index room : ℕ) (id : Option ℕ) → listed ≡ filled ids → index < length ids → length ids ≤ room → length (marked listed index (is_some id)) ≤ room
marked_fits listed ids index room id is within le =
    let h : length (filled (set ids index id)) ≤ length (set ids index id) = length-filled (set ids index id) in
    omega (arith, ap length (marked_filled listed ids index id is within), h, length-set ids index id, le)

-- ---- at a place among rising numbers
behind_rises : (x : ℕ) (xs : List ℕ) → Rises (x ∷ xs) → Rises xs
behind_rises x xs r i j lt within = r (suc i) (suc j) (omega arith) (omega arith)

all_behind : (x : ℕ) (xs : List ℕ) → Rises (x ∷ xs) → All (λ k. x < k) xs
all_behind x xs r = All-from_get_or (λ k. x < k) xs 0 (λ i within. r 0 (suc i) (omega arith) (omega arith))

marked_at : (xs : List ℕ) (x place : ℕ) (there : Bool) → Rises xs → place < length xs → get_or xs place 0 ≡ x → marked xs x there ≡ take place xs ++ (one_if there x ++ drop (suc place) xs)
marked_at [] x place there r within is = absurd (omega arith)
marked_at (y ∷ xs) x zero there r within is = subst (λ x. marked (y ∷ xs) x there ≡ one_if there x ++ xs) is (marked_head y xs there (all_behind y xs r))
marked_at (y ∷ xs) x (suc place) there r within is =
    let lower : y < get_or xs place 0 = r 0 (suc place) (omega arith) within in
    marked_behind y x xs there (omega (arith, lower, is)) ∙ ap (λ l. y ∷ l) (marked_at xs x place there (behind_rises y xs r) (omega arith) is)

marked_gap : (xs : List ℕ) (x place : ℕ) (there : Bool) → place ≤ length xs → ((k : ℕ) → k < place → get_or xs k 0 < x) → ((k : ℕ) → place ≤ k → k < length xs → x < get_or xs k 0)
    → marked xs x there ≡ take place xs ++ (one_if there x ++ drop place xs)
marked_gap xs x zero there within lower higher = marked_first x xs there (All-from_get_or (λ k. x < k) xs 0 (λ i lt. higher i (omega arith) lt))
marked_gap [] x (suc place) there within lower higher = absurd (omega arith)
marked_gap (y ∷ xs) x (suc place) there within lower higher =
    marked_behind y x xs there (lower 0 (omega arith))
    ∙ ap (λ l. y ∷ l) (marked_gap xs x place there (omega arith) (λ k lt. lower (suc k) (omega arith)) (λ k le lt. higher (suc k) (omega arith) (omega arith)))

drop_suc : (xs : List ℕ) (place : ℕ) → place < length xs → drop place xs ≡ get_or xs place 0 ∷ drop (suc place) xs
drop_suc [] place within = absurd (omega arith)
drop_suc (y ∷ xs) zero within = refl
drop_suc (y ∷ xs) (suc place) within = drop_suc xs place (omega arith)

-- ---- what a search found, and an edit there
no_lower : (xs : List ℕ) → Rises xs → (i j : ℕ) → i ≤ j → j < length xs → get_or xs i 0 ≤ get_or xs j 0
no_lower xs r i j le within = cases (cases_lt i j)
  where
    cases : (i < j) ⊎ (j ≤ i) → get_or xs i 0 ≤ get_or xs j 0
    cases (inl lt) = let h : get_or xs i 0 < get_or xs j 0 = r i j lt within in omega (arith, h)
    cases (inr ge) = let same : i ≡ j = omega arith in le_of_eq (ap (λ k. get_or xs k 0) same)

-- the place of a number, or where it would go, is among those from low to high
pub record IsBetween (xs : List ℕ) (x low high : ℕ) : Type 0 where
  pub order : low ≤ high
  pub within : high ≤ length xs
  pub lower : (i : ℕ) → i < low → get_or xs i 0 < x
  pub higher : (i : ℕ) → high ≤ i → i < length xs → x < get_or xs i 0

pub between_all : (xs : List ℕ) (x n : ℕ) → n ≡ length xs → IsBetween xs x 0 n
between_all xs x n is = record {
  order = omega arith;
  within = omega arith;
  lower = λ i below. absurd (omega arith);
  higher = λ i over within. absurd (omega arith);
}

pub between_above : (xs : List ℕ) (x low high middle : ℕ) → IsBetween xs x low high → Rises xs → middle < high → get_or xs middle 0 < x → IsBetween xs x (middle + 1) high
between_above xs x low high middle b rises below less = record {
  order = omega arith;
  within = b.within;
  lower = λ i under.
      let h : get_or xs i 0 ≤ get_or xs middle 0 = no_lower xs rises i middle (omega arith) (omega (arith, b.within)) in
      omega (arith, h, less);
  higher = b.higher;
}

pub between_below : (xs : List ℕ) (x low high middle : ℕ) → IsBetween xs x low high → Rises xs → low ≤ middle → middle < high → x < get_or xs middle 0 → IsBetween xs x low middle
between_below xs x low high middle b rises from below more = record {
  order = from;
  within = omega (arith, b.within);
  lower = b.lower;
  higher = λ i over within.
      let h : get_or xs middle 0 ≤ get_or xs i 0 = no_lower xs rises middle i over within in
      omega (arith, h, more);
}

pub gap_found : (xs : List ℕ) (x low high : ℕ) → IsBetween xs x low high → high ≤ low → IsBefore xs x low
gap_found xs x low high b none =
    let same : high ≡ low = omega (arith, b.order) in
    record { within = omega (arith, b.within); lower = b.lower; higher = λ i over within. b.higher i (omega arith) within }

-- an order with other rows
abbrev pub with_rows : Ordered → List ℕ → Ordered
with_rows o rows = record { rows = rows; capacity = o.capacity }

-- a number that is there is taken away, or stays
pub marked_taken : (xs new : List ℕ) (x place : ℕ) (there : Bool) → Rises xs → IsAt xs x place → there ≡ false → new ≡ remove xs place → new ≡ marked xs x there
marked_taken xs new x place there rises at fact is =
    is ∙ sym (ap (marked xs x) fact ∙ marked_at xs x place false rises at.within at.is)

pub marked_kept : (xs : List ℕ) (x place : ℕ) (there : Bool) → Rises xs → IsAt xs x place → there ≡ true → xs ≡ marked xs x there
marked_kept xs x place there rises at fact =
    sym (ap (marked xs x) fact ∙ marked_at xs x place true rises at.within at.is
    ∙ ap (λ l. take place xs ++ l) (ap (λ y. y ∷ drop (suc place) xs) (sym at.is) ∙ sym (drop_suc xs place at.within))
    ∙ take-append-drop place xs)

-- one that is not there is put there, or stays out
marked_in : (xs : List ℕ) (x place : ℕ) → IsBefore xs x place → marked xs x true ≡ insert xs place x
marked_in xs x place g = marked_gap xs x place true g.within g.lower g.higher

pub marked_put : (xs new : List ℕ) (x place : ℕ) (there : Bool) → IsBefore xs x place → there ≡ true → new ≡ insert xs place x → new ≡ marked xs x there
marked_put xs new x place there g fact is = is ∙ sym (ap (marked xs x) fact ∙ marked_in xs x place g)

pub marked_room : (xs : List ℕ) (x place room : ℕ) (there : Bool) → IsBefore xs x place → there ≡ true → length (marked xs x there) ≤ room → length xs < room
marked_room xs x place room there g fact le =
    omega (arith, le, ap (λ b. length (marked xs x b)) fact, ap length (marked_in xs x place g), length-insert xs place x g.within)

pub marked_out : (xs : List ℕ) (x place : ℕ) (there : Bool) → IsBefore xs x place → there ≡ false → xs ≡ marked xs x there
marked_out xs x place there g fact =
    sym (ap (marked xs x) fact ∙ marked_gap xs x place false g.within g.lower g.higher ∙ take-append-drop place xs)

-- ---- no filled slot
no_filled : (n : ℕ) (ids : List (Option ℕ)) → length (filled_from n ids) ≡ 0 → All (λ id. id ≡ None) ids
no_filled n [] none = All-nil (λ id. id ≡ None)
no_filled n (Some id ∷ ids) none = absurd (omega (arith, none))
no_filled n (None ∷ ids) none = All-cons (λ id. id ≡ None) None ids refl (no_filled (n + 1) ids none)

pub all_empty : (ids : List (Option ℕ)) → length (filled ids) ≡ 0 → All (λ id. id ≡ None) ids
all_empty ids none = no_filled 0 ids none

filled-replicate : (n count : ℕ) → filled_from n (replicate count None) ≡ []
filled-replicate n zero = refl
filled-replicate n (suc count) = filled-replicate (n + 1) count

pub none_filled : (count : ℕ) → filled (replicate count None) ≡ []
none_filled count = filled-replicate 0 count
