-- Chains beside a table's rows: what a search along one says, and what they have where a row comes or goes.
use Rattle.std.proofs.Common.{◌≡◌, ◌≢◌, ℕ, ◌+◌, ◌-◌, ◌<◌, ◌≤◌, Bool, true, false, not, ◌&&◌, ◌||◌, if◌then◌else◌, eqb, List, [], ◌∷◌, length, get_or, set, take, map as each, replicate, Some, None, refl, sym, ap, ap₂, subst, ◌∙◌, arith, ◌⊎◌, inl, inr, eq-eqb, eqb-true, get_or-set_same, get_or-set_other, length-set}
use Rattle.std.specs.List.{All, AllByRecursion, IsDistinct, slice_get, insert, remove}
use Rattle.std.specs.Cmp.{nat_eq_equiv}
use Rattle.std.proofs.lemmas.Bool.{cases_lt, cases_Bool}
use Rattle.std.proofs.lemmas.Bool.Decides.{eqb_tells}
use Rattle.std.proofs.lemmas.List.{get_or-map, get_or_default, get_or-replicate, get_or-take, length-map, length-take-le, length-replicate}
use Rattle.std.proofs.lemmas.List.Elements.{All-get_or}
use Rattle.std.proofs.lemmas.List.Folds.{list_any_at}
use Rattle.std.proofs.lemmas.List.Sorted.{list_any-IsPermutation, IsPermutation-remove, IsPermutation-insert}
use Rattle.std.proofs.lemmas.Map.Keys.{IsDistinct-head, IsDistinct-from_apart, IsDistinct-IsPermutation, apart_from_distinct}
use Rattle.std.proofs.lemmas.Map.Views.{Contains-from_any}
use Rattle.std.proofs.lemmas.Nat.{and_le_r}
use Rattle.std.proofs.lemmas.Option.{slice_get_within, get_or_from_slice_get, slice_get-get_or}
use Rattle.map_chains.specs.Chains.{Chained, has, without}
use Rattle.map_chains.specs.Buckets.{hash_of, bucket_of}
use Rattle.map_table.specs.Table.{row_keys}
use Rattle.map_table.specs.Index.{IsIndexed, IsRow, IsNotIn}
use Rattle.map_table.proofs.Searched.{row_key, length-row_keys}
use Rattle.map_table.proofs.OrderLemmas.{apart}

pub bucket_within : (count : ℕ) (key : List ℕ) → 0 < count → bucket_of count key < count
unfolding bucket_of
bucket_within count key some = omega (arith, and_le_r (hash_of key) (count - 1))

-- ---- membership
unlike : (a b : ℕ) → a ≢ b → eqb a b ≡ false
unlike a b other = cases (eqb_tells a b)
  where
    cases : ((eqb a b ≡ true) × (a ≡ b)) ⊎ ((eqb a b ≡ false) × (a ≢ b)) → eqb a b ≡ false
    cases (inl (e, same)) = absurd (other same)
    cases (inr (e, differs)) = e

pub has_at : (xs : List ℕ) (i row : ℕ) → i < length xs → get_or xs i 0 ≡ row → has row xs ≡ true
has_at xs i row lt is = list_any_at (eqb row) xs i 0 lt (eq-eqb row (get_or xs i 0) (sym is))

place_in : (xs : List ℕ) (row : ℕ) → has row xs ≡ true → (i : ℕ) × (i < length xs) × (get_or xs i 0 ≡ row)
place_in xs row there =
    let c : (k : ℕ) × (k < length xs) × (get_or xs k row ≡ row) = Contains-from_any {eq = eqb} eqb-true row xs there in
    (c.0, c.1, get_or_default xs c.0 0 row c.1 ∙ c.2)

none_from : (row : ℕ) (xs : List ℕ) → AllByRecursion (λ x. eqb row x ≡ false) xs → has row xs ≡ false
none_from row [] all = refl
none_from row (x ∷ xs) all = ap (λ b. b || has row xs) all.0 ∙ none_from row xs all.1

has_inserted : (xs : List ℕ) (i x row : ℕ) → has row (insert xs i x) ≡ (eqb row x || has row xs)
has_inserted xs i x row = sym (list_any-IsPermutation (eqb row) (x ∷ xs) (insert xs i x) (IsPermutation-insert xs i x))

has_removed : (xs : List ℕ) (i x row : ℕ) → i < length xs → x ≡ get_or xs i x → has row xs ≡ (eqb row x || has row (remove xs i))
has_removed xs i x row lt is = list_any-IsPermutation (eqb row) xs (x ∷ remove xs i) (IsPermutation-remove xs i x lt is)

removed_gone : (xs : List ℕ) (i x : ℕ) → IsDistinct eqb xs → i < length xs → x ≡ get_or xs i x → has x (remove xs i) ≡ false
removed_gone xs i x once lt is =
    none_from x (remove xs i) (IsDistinct-head eqb x (remove xs i) (IsDistinct-IsPermutation eqb nat_eq_equiv.symm xs (x ∷ remove xs i) (IsPermutation-remove xs i x lt is) once))

without_same : (row : ℕ) (chain : List ℕ) → has row (without row chain) ≡ false
without_same row [] = refl
without_same row (x ∷ chain) = cases (without_same row chain) (eqb row x) refl
  where
    cases : has row (without row chain) ≡ false → (b : Bool) → eqb row x ≡ b → has row (if not b then x ∷ without row chain else without row chain) ≡ false
    cases rest true e = rest
    cases rest false e = ap (λ b. b || has row (without row chain)) e ∙ rest

without_other : (row other : ℕ) (chain : List ℕ) → row ≢ other → has other (without row chain) ≡ has other chain
without_other row other [] differs = refl
without_other row other (x ∷ chain) differs = cases (without_other row other chain differs) (eqb row x) refl
  where
    cases : has other (without row chain) ≡ has other chain → (b : Bool) → eqb row x ≡ b → has other (if not b then x ∷ without row chain else without row chain) ≡ (eqb other x || has other chain)
    cases rest true e = rest ∙ sym (ap (λ b. b || has other chain) (unlike other x (λ same. differs (eqb-true row x e ∙ sym same))))
    cases rest false e = ap (λ b. eqb other x || b) rest

-- the first rows of an order
pub first_once : (order : List ℕ) (len : ℕ) → len ≤ length order → IsDistinct eqb order → IsDistinct eqb (take len order)
first_once order len within once =
    let long : length (take len order) ≡ len = length-take-le len order within in
    IsDistinct-from_apart eqb (take len order) (λ i j d lt inside.
    let i_in : i < len = omega arith in
    let j_in : j < len = omega arith in
    ap₂ eqb (get_or-take len order i d i_in) (get_or-take len order j d j_in) ∙ apart_from_distinct eqb order i j d once lt (omega arith))

pub next_free : (order : List ℕ) (len row : ℕ) → len < length order → IsDistinct eqb order → row ≡ get_or order len 0 → has row (take len order) ≡ false
next_free order len row within once at = cases (cases_Bool (has row (take len order)))
  where
    cases : (has row (take len order) ≡ true) ⊎ (has row (take len order) ≡ false) → has row (take len order) ≡ false
    cases (inl there) =
        let p = place_in (take len order) row there in
        let long : length (take len order) ≡ len = length-take-le len order (omega arith) in
        let lt : p.0 < len = omega (arith, p.1) in
        absurd (apart order p.0 len once (omega arith) within (omega arith) (sym (get_or-take len order p.0 0 lt) ∙ p.2 ∙ at))
    cases (inr none) = none

-- ---- a search
module _ (order : List ℕ) (len : ℕ) (keys : List (List ℕ)) (chains : Chained) (x : IsIndexed order len keys chains) (key : List ℕ) where
  abbrev bucket : ℕ
  bucket = bucket_of (length chains.buckets) key

  abbrev pub chain : List ℕ
  chain = get_or chains.buckets (bucket_of (length chains.buckets) key) []

  pub in_first : (i row : ℕ) → slice_get chain i ≡ Some row → has row (take len order) ≡ true
  in_first i row at =
      let there : has row chain ≡ true = has_at chain i row (slice_get_within chain i row at) (get_or_from_slice_get chain i row 0 at) in
      first_of_and (has row (take len order)) _ (sym (x.exact bucket row (bucket_within (length chains.buckets) key x.some)) ∙ there)
    where
      first_of_and : (a b : Bool) → (a && b) ≡ true → a ≡ true
      first_of_and true b e = refl
      first_of_and false b e = e

  pub chain_row : (i row : ℕ) → len ≤ length order → All (λ r. r < length keys) order → slice_get chain i ≡ Some row → row < length keys
  chain_row i row within rows at =
      let p = place_in (take len order) row (in_first i row at) in
      let long : length (take len order) ≡ len = length-take-le len order within in
      let lt : p.0 < len = omega (arith, p.1) in
      let is : get_or order p.0 0 ≡ row = sym (get_or-take len order p.0 0 lt) ∙ p.2 in
      subst (λ r. r < length keys) is (All-get_or (λ r. r < length keys) order p.0 0 (omega arith) rows)

  pub chain_found : (i row : ℕ) → len ≤ length order → slice_get chain i ≡ Some row → get_or keys row [] ≡ key → IsRow order len keys key row
  chain_found i row within at is =
      let p = place_in (take len order) row (in_first i row at) in
      let long : length (take len order) ≡ len = length-take-le len order within in
      let lt : p.0 < len = omega (arith, p.1) in
      record { place = p.0; within = lt; at = sym (get_or-take len order p.0 0 lt) ∙ p.2; is = is }

  pub chain_ended : (n : ℕ) → len ≤ length order → None ≡ slice_get chain n → ((i : ℕ) → i < n → get_or keys (get_or chain i 0) [] ≢ key) → IsNotIn (row_keys order len keys) key
  chain_ended n within ended passed =
      record {
        other = λ place lt same.
            let below : place < len = omega (arith, length-row_keys order len keys within) in
            let row : ℕ = get_or order place 0 in
            let is : get_or keys row [] ≡ key = sym (row_key order len keys place below within) ∙ same in
            let long : length (take len order) ≡ len = length-take-le len order within in
            let first : has row (take len order) ≡ true = has_at (take len order) place row (omega arith) (get_or-take len order place 0 below) in
            let here : eqb (bucket_of (length chains.buckets) (get_or keys row [])) bucket ≡ true = eq-eqb _ _ (ap (bucket_of (length chains.buckets)) is) in
            let there : has row chain ≡ true = x.exact bucket row (bucket_within (length chains.buckets) key x.some) ∙ ap₂ (λ a b. a && b) first here in
            let p = place_in chain row there in
            passed p.0 (before_end p.0 p.1) (ap (λ r. get_or keys r []) p.2 ∙ is);
      }
    where
      before_end : (i : ℕ) → i < length chain → i < n
      before_end i lt = cases (cases_lt i n)
        where
          cases : (i < n) ⊎ (n ≤ i) → i < n
          cases (inl less) = less
          cases (inr le) = absurd (let at : slice_get chain n ≡ Some (get_or chain n 0) = slice_get-get_or chain n 0 (omega arith) in let no : None ≡ Some (get_or chain n 0) = ended ∙ at in cc no)

-- ---- a row that comes
pub came_in : (order : List ℕ) (len : ℕ) (keys : List (List ℕ)) (chains : Chained) → IsIndexed order len keys chains
    → (after : List ℕ) (new_keys : List (List ℕ)) (place row bucket : ℕ) (key : List ℕ) → take (len + 1) after ≡ insert (take len order) place row → has row (take len order) ≡ false → new_keys ≡ set keys row key → row < length keys
    → bucket ≡ bucket_of (length chains.buckets) key → IsIndexed after (len + 1) new_keys (record chains { buckets = set chains.buckets bucket (row ∷ get_or chains.buckets bucket []) })
came_in order len keys chains x after new_keys place row bucket key first free ks there at =
    record {
      rows = x.rows ∙ sym (ap length ks ∙ length-set keys row key);
      some = omega (arith, count, x.some);
      exact = λ b r lt.
          let inside : b < length chains.buckets = omega (arith, count) in
          cases b r inside (eqb_tells r row) (eqb_tells b bucket)
          ∙ sym (ap₂ (λ p q. p && q) (ap (has r) first ∙ has_inserted (take len order) place row r) (ap₂ (λ n (l : List (List ℕ)). eqb (bucket_of n (get_or l r [])) b) count ks));
    }
  where
    count : length (set chains.buckets bucket (row ∷ get_or chains.buckets bucket [])) ≡ length chains.buckets
    count = length-set chains.buckets bucket _

    within : bucket < length chains.buckets
    within = subst (λ n. n < length chains.buckets) (sym at) (bucket_within (length chains.buckets) key x.some)

    of_new : (r : ℕ) → r ≡ row → get_or (set keys row key) r [] ≡ key
    of_new r same = ap (λ k. get_or (set keys row key) k []) same ∙ get_or-set_same keys row key [] there

    old : (b r : ℕ) → b < length chains.buckets → eqb r row ≡ false → r ≢ row → has r (get_or chains.buckets b []) ≡ ((eqb r row || has r (take len order)) && eqb (bucket_of (length chains.buckets) (get_or (set keys row key) r [])) b)
    old b r inside e other =
        x.exact b r inside
        ∙ sym (ap₂ (λ p q. p && q) (ap (λ t. t || has r (take len order)) e) (ap (λ (k : List ℕ). eqb (bucket_of (length chains.buckets) k) b) (get_or-set_other keys row r key [] other)))

    cases : (b r : ℕ) → b < length chains.buckets → ((eqb r row ≡ true) × (r ≡ row)) ⊎ ((eqb r row ≡ false) × (r ≢ row)) → ((eqb b bucket ≡ true) × (b ≡ bucket)) ⊎ ((eqb b bucket ≡ false) × (b ≢ bucket))
        → has r (get_or (set chains.buckets bucket (row ∷ get_or chains.buckets bucket [])) b []) ≡ ((eqb r row || has r (take len order)) && eqb (bucket_of (length chains.buckets) (get_or (set keys row key) r [])) b)
    cases b r inside (inl (e, same)) (inl (f, here)) =
        ap (λ k. has r (get_or (set chains.buckets bucket (row ∷ get_or chains.buckets bucket [])) k [])) here
        ∙ ap (has r) (get_or-set_same chains.buckets bucket (row ∷ get_or chains.buckets bucket []) [] within)
        ∙ ap (λ t. t || has r (get_or chains.buckets bucket [])) e
        ∙ sym (ap₂ (λ p q. p && q) (ap (λ t. t || has r (take len order)) e) (eq-eqb _ b (ap (bucket_of (length chains.buckets)) (of_new r same) ∙ sym at ∙ sym here)))
    cases b r inside (inl (e, same)) (inr (f, apart)) =
        ap (has r) (get_or-set_other chains.buckets bucket b (row ∷ get_or chains.buckets bucket []) [] apart)
        ∙ x.exact b r inside
        ∙ ap (λ t. t && eqb (bucket_of (length chains.buckets) (get_or keys r [])) b) (ap (λ k. has k (take len order)) same ∙ free)
        ∙ sym (ap₂ (λ p q. p && q) (ap (λ t. t || has r (take len order)) e) (unlike _ b (λ q. apart (sym q ∙ is_too ∙ sym at))))
      where
        is_too : bucket_of (length chains.buckets) (get_or (set keys row key) r []) ≡ bucket_of (length chains.buckets) key
        is_too = ap (bucket_of (length chains.buckets)) (of_new r same)
    cases b r inside (inr (e, other)) (inl (f, here)) =
        ap (λ k. has r (get_or (set chains.buckets bucket (row ∷ get_or chains.buckets bucket [])) k [])) here
        ∙ ap (has r) (get_or-set_same chains.buckets bucket (row ∷ get_or chains.buckets bucket []) [] within)
        ∙ ap (λ t. t || has r (get_or chains.buckets bucket [])) e
        ∙ ap (λ k. has r (get_or chains.buckets k [])) (sym here)
        ∙ old b r inside e other
    cases b r inside (inr (e, other)) (inr (f, apart)) =
        ap (has r) (get_or-set_other chains.buckets bucket b (row ∷ get_or chains.buckets bucket []) [] apart) ∙ old b r inside e other

-- ---- a row that goes
pub went_out : (order : List ℕ) (len : ℕ) (keys : List (List ℕ)) (chains : Chained) → IsIndexed order len keys chains
    → (after : List ℕ) (less place row : ℕ) → take less after ≡ remove (take len order) place → IsDistinct eqb (take len order) → place < length (take len order) → row ≡ get_or (take len order) place row
    → IsIndexed after less keys (record chains { buckets = each (without row) chains.buckets })
went_out order len keys chains x after less place row first once within at =
    record {
      rows = x.rows;
      some = omega (arith, count, x.some);
      exact = λ b r lt.
          let inside : b < length chains.buckets = omega (arith, count) in
          ap (has r) (get_or-map (without row) chains.buckets b [] [] inside)
          ∙ cases b r inside (eqb_tells r row)
          ∙ sym (ap₂ (λ p q. p && q) (ap (has r) first) (ap (λ n. eqb (bucket_of n (get_or keys r [])) b) count));
    }
  where
    count : length (each (without row) chains.buckets) ≡ length chains.buckets
    count = length-map chains.buckets (without row)

    cases : (b r : ℕ) → b < length chains.buckets → ((eqb r row ≡ true) × (r ≡ row)) ⊎ ((eqb r row ≡ false) × (r ≢ row))
        → has r (without row (get_or chains.buckets b [])) ≡ (has r (remove (take len order) place) && eqb (bucket_of (length chains.buckets) (get_or keys r [])) b)
    cases b r inside (inl (e, same)) =
        ap (λ k. has k (without row (get_or chains.buckets b []))) same
        ∙ without_same row (get_or chains.buckets b [])
        ∙ sym (ap (λ t. t && eqb (bucket_of (length chains.buckets) (get_or keys r [])) b) (ap (λ k. has k (remove (take len order) place)) same ∙ removed_gone (take len order) place row once within at))
    cases b r inside (inr (e, other)) =
        without_other row r (get_or chains.buckets b []) (λ q. other (sym q))
        ∙ x.exact b r inside
        ∙ ap (λ t. t && eqb (bucket_of (length chains.buckets) (get_or keys r [])) b)
        (has_removed (take len order) place row r within at ∙ ap (λ t. t || has r (remove (take len order) place)) e)

-- some chain has each of the first rows of an order, and no chain has another row
pub chain_of : (order : List ℕ) (len : ℕ) (keys : List (List ℕ)) (chains : Chained) → IsIndexed order len keys chains → (row : ℕ) → has row (take len order) ≡ true → (bucket : ℕ) × (has row (get_or chains.buckets bucket []) ≡ true)
chain_of order len keys chains x row first =
    let bucket : ℕ = bucket_of (length chains.buckets) (get_or keys row []) in
    (bucket, x.exact bucket row (bucket_within (length chains.buckets) (get_or keys row []) x.some) ∙ ap₂ (λ a b. a && b) first (eq-eqb bucket bucket refl))

pub in_none : (order : List ℕ) (len : ℕ) (keys : List (List ℕ)) (chains : Chained) → IsIndexed order len keys chains → (row : ℕ) → has row (take len order) ≡ false → All (λ chain. has row chain ≡ false) chains.buckets
in_none order len keys chains x row free k d lt =
    ap (has row) (get_or_default chains.buckets k d [] lt) ∙ x.exact k row lt ∙ ap (λ t. t && eqb (bucket_of (length chains.buckets) (get_or keys row [])) k) free

-- ---- no rows
many : (count : ℕ) (buckets : List (List ℕ)) → buckets ≡ replicate count [] → length buckets ≡ count
many count buckets is = ap length is ∙ length-replicate count []

pub none_indexed : (order : List ℕ) (keys : List (List ℕ)) (rows count : ℕ) → rows ≡ length keys → 0 < count → IsIndexed order 0 keys (record { rows = rows; buckets = replicate count [] })
none_indexed order keys rows count is some =
    record {
      rows = is;
      some = omega (arith, many count (replicate count []) refl);
      exact = λ bucket row lt. ap (has row) (get_or-replicate count bucket [] [] (omega (arith, many count (replicate count []) refl)));
    }
