-- A search along a chain, and one by halving among ascending keys.
use Rattle.std.proofs.Common.{◌≡◌, ℕ, ◌+◌, ◌<◌, ◌≤◌, List, [], length, get_or, take, Option, ◌≢◌, sym, ap, subst, ◌∙◌, arith, ◌⊎◌, inl, inr}
use Rattle.std.specs.List.{slice_get}
use Rattle.std.specs.declared.cmp.Ordering.{Ordering}
use Rattle.std.specs.declared.cmp.Ordering.TheVariants.{Less, Equal, Greater}
use Rattle.std.specs.Ordering.{ordering_reverse}
use Rattle.std.specs.Cmp.{tied_itself}
use Rattle.std.specs.Cmp.Lexicographic.{nat_list_cmp_total}
use Rattle.std.specs.FinMap.{nat_cmp-IsAntisymmetric, slice_cmp-IsAntisymmetric}
use Rattle.std.proofs.lemmas.Bool.{cases_lt}
use Rattle.std.proofs.lemmas.List.{get_or-map, get_or-take, length-map, length-take-le}
use Rattle.map_table.specs.Order.{key_cmp, Rises, IsPlace, IsGap}
use Rattle.map_table.specs.Table.{row_keys}
use Rattle.map_table.specs.Index.{IsNotIn}

-- so many rows of a chain were read, and have other keys
pub record IsWalked (keys : List (List ℕ)) (chain : List ℕ) (key : List ℕ) (link : Option ℕ) (step : ℕ) : Type 0 where
  pub at : link ≡ slice_get chain step
  pub passed : (i : ℕ) → i < step → get_or keys (get_or chain i 0) [] ≢ key

-- the place of a key, or where it would go, is among those from low to high
pub record IsBetween (keys : List (List ℕ)) (key : List ℕ) (low high : ℕ) : Type 0 where
  pub order : low ≤ high
  pub within : high ≤ length keys
  pub lower : (i : ℕ) → i < low → key_cmp (get_or keys i []) key ≡ Less
  pub higher : (i : ℕ) → high ≤ i → i < length keys → key_cmp key (get_or keys i []) ≡ Less

pub less_of_greater : (x y : List ℕ) → key_cmp x y ≡ Greater → key_cmp y x ≡ Less
less_of_greater x y e = nat_list_cmp_total.antisymm y x ∙ ap ordering_reverse e

pub same_of_equal : (x y : List ℕ) → key_cmp x y ≡ Equal → x ≡ y
same_of_equal x y e = slice_cmp-IsAntisymmetric nat_cmp-IsAntisymmetric x y e

pub between_all : (keys : List (List ℕ)) (key : List ℕ) (n : ℕ) → n ≡ length keys → IsBetween keys key 0 n
between_all keys key n is = record {
  order = omega arith;
  within = omega arith;
  lower = λ i below. absurd (omega arith);
  higher = λ i above within. absurd (omega arith);
}

-- a key in the middle is lower
pub between_above : (keys : List (List ℕ)) (key : List ℕ) (low high middle : ℕ) → IsBetween keys key low high → Rises keys → middle < high → key_cmp (get_or keys middle []) key ≡ Less → IsBetween keys key (middle + 1) high
between_above keys key low high middle b rises below is = record {
  order = omega arith;
  within = b.within;
  lower = λ i under. cases i under (cases_lt i middle);
  higher = b.higher;
}
  where
    cases : (i : ℕ) → i < middle + 1 → (i < middle) ⊎ (middle ≤ i) → key_cmp (get_or keys i []) key ≡ Less
    cases i under (inl less) = let in_range : middle < length keys = omega (arith, b.within) in nat_list_cmp_total.trans (get_or keys i []) (get_or keys middle []) key (rises i middle less in_range) is
    cases i under (inr le) = let same : middle ≡ i = omega arith in subst (λ j. key_cmp (get_or keys j []) key ≡ Less) same is

-- a key in the middle is higher
pub between_below : (keys : List (List ℕ)) (key : List ℕ) (low high middle : ℕ) → IsBetween keys key low high → Rises keys → low ≤ middle → middle < high → key_cmp (get_or keys middle []) key ≡ Greater → IsBetween keys key low middle
between_below keys key low high middle b rises from below is = record {
  order = from;
  within = omega (arith, b.within);
  lower = b.lower;
  higher = λ i above within. cases i above within (cases_lt middle i);
}
  where
    less : key_cmp key (get_or keys middle []) ≡ Less
    less = less_of_greater (get_or keys middle []) key is

    cases : (i : ℕ) → middle ≤ i → i < length keys → (middle < i) ⊎ (i ≤ middle) → key_cmp key (get_or keys i []) ≡ Less
    cases i above within (inl more) = nat_list_cmp_total.trans key (get_or keys middle []) (get_or keys i []) less (rises middle i more within)
    cases i above within (inr le) = let same : middle ≡ i = omega arith in subst (λ j. key_cmp key (get_or keys j []) ≡ Less) same less

-- a key in the middle is the one
pub place_found : (keys : List (List ℕ)) (key : List ℕ) (low high middle : ℕ) → IsBetween keys key low high → middle < high → key_cmp (get_or keys middle []) key ≡ Equal → IsPlace keys key middle
place_found keys key low high middle b below is = record { within = omega (arith, b.within); is = same_of_equal _ _ is }

-- nothing is left between
pub gap_found : (keys : List (List ℕ)) (key : List ℕ) (low high : ℕ) → IsBetween keys key low high → high ≤ low → IsGap keys key low
gap_found keys key low high b none =
    let same : high ≡ low = omega (arith, b.order) in
    record { within = omega (arith, b.within); lower = b.lower; higher = subst (λ h. (i : ℕ) → h ≤ i → i < length keys → key_cmp key (get_or keys i []) ≡ Less) same b.higher }

-- a key that would go between others is none of them
pub gap_other : (keys : List (List ℕ)) (key : List ℕ) (place : ℕ) → IsGap keys key place → IsNotIn keys key
gap_other keys key place g = record { other = λ i lt same. apart i lt same (cases_lt i place) }
  where
    itself : (o : Ordering) → o ≡ Less → o ≡ Equal → ⊥
    itself o less equal = let no : Less ≡ Equal = sym less ∙ equal in cc no

    apart : (i : ℕ) → i < length keys → get_or keys i [] ≡ key → (i < place) ⊎ (place ≤ i) → ⊥
    apart i lt same (inl below) = itself (key_cmp (get_or keys i []) key) (g.lower i below) (ap (λ k. key_cmp k key) same ∙ tied_itself nat_list_cmp_total key)
    apart i lt same (inr above) = itself (key_cmp key (get_or keys i [])) (g.higher i above lt) (ap (key_cmp key) same ∙ tied_itself nat_list_cmp_total key)

-- the key in a row
pub row_key : (order : List ℕ) (len : ℕ) (keys : List (List ℕ)) (place : ℕ) → place < len → len ≤ length order → get_or (row_keys order len keys) place [] ≡ get_or keys (get_or order place 0) []
row_key order len keys place below within =
    let in_range : place < length (take len order) = omega (arith, length-take-le len order within) in
    get_or-map (λ row. get_or keys row []) (take len order) place 0 [] in_range
    ∙ ap (λ row. get_or keys row []) (get_or-take len order place 0 below)

pub length-row_keys : (order : List ℕ) (len : ℕ) (keys : List (List ℕ)) → len ≤ length order → length (row_keys order len keys) ≡ len
length-row_keys order len keys within = length-map (take len order) (λ row. get_or keys row []) ∙ length-take-le len order within

-- what a comparison with the key in a row says of the key at its place
pub compared : (order : List ℕ) (len : ℕ) (keys : List (List ℕ)) (key row : List ℕ) (place : ℕ) (answer : Ordering) → place < len → len ≤ length order → row ≡ get_or keys (get_or order place 0) [] → answer ≡ key_cmp row key
    → key_cmp (get_or (row_keys order len keys) place []) key ≡ answer
compared order len keys key row place answer below within is told =
    ap (λ k. key_cmp k key) (row_key order len keys place below within ∙ sym is) ∙ sym told
