-- What chains' calls leave of the rows in each bucket, from what they do to the links.
use Rattle.std.proofs.Common.{◌≡◌, ◌≢◌, ℕ, suc, ◌+◌, ◌-◌, ◌<◌, ◌≤◌, ◌^◌, Bool, true, false, not, if◌then◌else◌, eqb, List, [], ◌∷◌, length, get_or, set, map as each, replicate, Some, None, refl, sym, ap, subst, ◌∙◌, arith, add-one, ◌⊎◌, inl, inr, get_or-set_same, get_or-set_other, length-set}
use Rattle.std.specs.List.{All, AllByRecursion, IsDistinct, range_with_len, slice_get}
use Rattle.std.proofs.lemmas.Bool.{cases_lt}
use Rattle.std.proofs.lemmas.Bool.Decides.{nat_tests, eqb_tells}
use Rattle.std.proofs.lemmas.List.{ext_get_or, get_or-map, get_or_past, get_or-replicate, length-map, length-replicate}
use Rattle.std.proofs.lemmas.List.Elements.{All-get_or, All-set}
use Rattle.std.proofs.lemmas.List.FromFn.{length-range_with_len, get_or-range_with_len, length-map-range_with_len, get_or-map-range_with_len}
use Rattle.std.proofs.lemmas.Map.Keys.{IsDistinct-head, IsDistinct-tail, IsDistinct-cons, IsDistinct-from_apart}
use Rattle.std.proofs.lemmas.Map.Steps.{length-le_from_distinct_below}
use Rattle.map_chains.specs.Chains.{Chained, has, without, rows_from, row_after, buckets_of, Leads, IsLinked}
use Rattle.map_chains.proofs.ChainLemmas.{Below, read_along, below_read, below_has, all_without, apart_from, has_other, round_row, first_row, next_row, first_back, first_other, unlinked, stays_linked, linked}

-- what contracts see of chains
abbrev pub chained : ℕ → List ℕ → Chained
chained rows after = record { rows = rows; buckets = buckets_of rows after }

-- chains, and what contracts see of them
pub record IsChained (rows : ℕ) (after before : List ℕ) (seen : Chained) : Type 0 where
  pub linked : IsLinked rows after before
  pub view : chained rows after ≡ seen

length-buckets_of : (rows : ℕ) (after : List ℕ) → length (buckets_of rows after) ≡ length after - rows
length-buckets_of rows after = length-map-range_with_len (λ bucket. rows_from after rows rows (rows + bucket)) 0 (length after - rows)

bucket_is : (rows : ℕ) (after : List ℕ) (bucket : ℕ) → rows + bucket < length after → get_or (buckets_of rows after) bucket [] ≡ rows_from after rows rows (rows + bucket)
bucket_is rows after bucket within = get_or-map-range_with_len (λ bucket. rows_from after rows rows (rows + bucket)) 0 (length after - rows) bucket bucket [] (omega arith) (omega arith)

-- ---- chains with other links
none_of : (row : ℕ) (chain : List ℕ) → has row chain ≡ false → AllByRecursion (λ other. eqb row other ≡ false) chain
none_of row [] none = tt
none_of row (x ∷ chain) none =
    let h = has_other row x chain none in
    let differs : row ≢ x = h.0 in
    let e : eqb row x ≡ false = grind (arith, nat_tests) in
    (e, none_of row chain h.1)

once_without : (row : ℕ) (chain : List ℕ) → IsDistinct eqb chain → IsDistinct eqb (without row chain)
once_without row [] once = once
once_without row (x ∷ chain) once = cases (once_without row chain (IsDistinct-tail eqb x chain once)) (eqb row x)
  where
    cases : IsDistinct eqb (without row chain) → (b : Bool) → IsDistinct eqb (if not b then x ∷ without row chain else without row chain)
    cases rest true = rest
    cases rest false = IsDistinct-cons eqb x (without row chain) (all_without (λ other. eqb x other ≡ false) row chain (IsDistinct-head eqb x chain once)) rest

-- links that lead from each bucket round through a chain
module _ (rows : ℕ) (after before : List ℕ) (new : ℕ → List ℕ) (leads : (bucket : ℕ) → rows + bucket < length after → Leads after before (rows + bucket) (new bucket) (rows + bucket))
    (below : (bucket : ℕ) → rows + bucket < length after → Below rows (new bucket)) (once : (bucket : ℕ) → rows + bucket < length after → IsDistinct eqb (new bucket)) where
  read : (bucket : ℕ) → rows + bucket < length after → rows_from after rows rows (rows + bucket) ≡ new bucket
  read bucket within =
      let long : length (new bucket) ≤ rows = length-le_from_distinct_below (new bucket) rows (once bucket within) (λ q there. below_has rows q (new bucket) (below bucket within) there) in
      read_along after before rows rows (rows + bucket) (rows + bucket) (new bucket) (leads bucket within) (below bucket within) (omega arith) long

  all_linked : rows < length after → length after ≤ 2 ^ 32 → length before ≡ length after → All (λ node. node < length after) after → All (λ node. node < length after) before → IsLinked rows after before
  all_linked some few back afters befores =
      record {
        some = some;
        few = few;
        back = back;
        afters = afters;
        befores = befores;
        round = λ bucket within. subst (λ chain. Leads after before (rows + bucket) chain (rows + bucket)) (sym (read bucket within)) (leads bucket within);
        once = λ bucket within. subst (IsDistinct eqb) (sym (read bucket within)) (once bucket within);
      }

  all_read : (target : List (List ℕ)) → length target ≡ length after - rows → ((bucket : ℕ) → rows + bucket < length after → get_or target bucket [] ≡ new bucket) → buckets_of rows after ≡ target
  all_read target long same =
      let count : length (buckets_of rows after) ≡ length after - rows = length-buckets_of rows after in
      ext_get_or [] (buckets_of rows after) target (count ∙ sym long)
      (λ bucket lt. let within : rows + bucket < length after = omega arith in bucket_is rows after bucket within ∙ read bucket within ∙ sym (same bucket within))

  pub all_chained : (target : List (List ℕ)) (seen : Chained) → IsLinked rows after before → seen ≡ record { rows = rows; buckets = target } → length target ≡ length after - rows → ((bucket : ℕ) → rows + bucket < length after → get_or target bucket [] ≡ new bucket)
      → IsChained rows after before seen
  all_chained target seen l is long same =
      record { linked = l; view = ap (λ (b : List (List ℕ)). record { rows = rows; buckets = b }) (all_read target long same) ∙ sym is }

-- ---- new chains
number : (n i : ℕ) (l : List ℕ) → l ≡ range_with_len 0 n → i < n → get_or l i 0 ≡ i
number n i l is lt = omega (arith, ap (λ l. get_or l i 0) is, get_or-range_with_len 0 n i 0 lt)

numbers : (n : ℕ) (l : List ℕ) → l ≡ range_with_len 0 n → All (λ node. node < n) l
numbers n l is k d lt = omega (arith, ap (λ l. get_or l k d) is, ap length is, length-range_with_len 0 n, get_or-range_with_len 0 n k d (omega (arith, ap length is, length-range_with_len 0 n)))

pub begun : (rows buckets : ℕ) (after before : List ℕ) → 0 < buckets → rows + buckets ≤ 2 ^ 32 → after ≡ range_with_len 0 (rows + buckets) → before ≡ range_with_len 0 (rows + buckets)
    → IsChained rows after before (record { rows = rows; buckets = replicate buckets [] })
begun rows buckets after before some few is back =
    let long : length after ≡ rows + buckets = ap length is ∙ length-range_with_len 0 (rows + buckets) in
    let back_long : length before ≡ rows + buckets = ap length back ∙ length-range_with_len 0 (rows + buckets) in
    let new : ℕ → List ℕ = λ bucket. [] in
    let leads : (bucket : ℕ) → rows + bucket < length after → Leads after before (rows + bucket) [] (rows + bucket) =
    λ bucket within. (number (rows + buckets) (rows + bucket) after is (omega arith), number (rows + buckets) (rows + bucket) before back (omega arith)) in
    let below : (bucket : ℕ) → rows + bucket < length after → Below rows [] = λ bucket within. tt in
    let once : (bucket : ℕ) → rows + bucket < length after → IsDistinct eqb [] = λ bucket within. IsDistinct-from_apart eqb [] (λ i j d lt inside. absurd (omega arith)) in
    let l : IsLinked rows after before =
    all_linked rows after before new leads below once (omega arith) (omega arith) (back_long ∙ sym long)
    (subst (λ n. All (λ node. node < n) after) (sym long) (numbers (rows + buckets) after is))
    (subst (λ n. All (λ node. node < n) before) (sym long) (numbers (rows + buckets) before back)) in
    all_chained rows after before new leads below once (replicate buckets []) _ l refl (length-replicate buckets [] ∙ omega arith)
    (λ bucket within. get_or-replicate buckets bucket [] [] (omega arith))

module _ (seen : Chained) (rows : ℕ) (after before : List ℕ) (l : IsLinked rows after before) (view : chained rows after ≡ seen) where
  buckets_are : seen.buckets ≡ buckets_of rows after
  buckets_are = sym (ap (λ (c : Chained). c.buckets) view)

  pub rows_are : seen.rows ≡ rows
  rows_are = sym (ap (λ (c : Chained). c.rows) view)

  pub count_is : length after - rows ≡ length seen.buckets
  count_is = sym (ap length buckets_are ∙ length-buckets_of rows after)

  pub head_there : (bucket : ℕ) → bucket < length seen.buckets → rows + bucket < length after
  head_there bucket within = omega (arith, count_is)

  pub row_there : (row : ℕ) → row < seen.rows → row < length after
  row_there row within = omega (arith, rows_are, l.some)

  abbrev chain : ℕ → List ℕ
  chain bucket = rows_from after rows rows (rows + bucket)

  chain_is : (bucket : ℕ) → rows + bucket < length after → get_or seen.buckets bucket [] ≡ chain bucket
  chain_is bucket within = ap (λ (b : List (List ℕ)). get_or b bucket []) buckets_are ∙ bucket_is rows after bucket within

  below : (bucket : ℕ) → Below rows (chain bucket)
  below bucket = below_read after rows rows (rows + bucket)

  -- ---- what is read
  pub first_read : (bucket : ℕ) → bucket < length seen.buckets → row_after after rows (rows + bucket) ≡ slice_get (get_or seen.buckets bucket []) 0
  first_read bucket within =
      let there : rows + bucket < length after = head_there bucket within in
      first_row after before rows (rows + bucket) (rows + bucket) (chain bucket) (l.round bucket there) (below bucket) (omega arith)
      ∙ ap (λ c. slice_get c 0) (sym (chain_is bucket there))

  pub next_read : (row bucket i : ℕ) → slice_get (get_or seen.buckets bucket []) i ≡ Some row → row_after after rows row ≡ slice_get (get_or seen.buckets bucket []) (i + 1)
  next_read row bucket i at = cases (cases_lt bucket (length seen.buckets))
    where
      none_there : (c : List ℕ) → c ≡ [] → slice_get c i ≡ Some row → row_after after rows row ≡ slice_get c (i + 1)
      none_there c none at = absurd (let no : None ≡ Some row = sym (ap (λ c. slice_get c i) none) ∙ at in cc no)

      cases : (bucket < length seen.buckets) ⊎ (length seen.buckets ≤ bucket) → row_after after rows row ≡ slice_get (get_or seen.buckets bucket []) (i + 1)
      cases (inl within) =
          let there : rows + bucket < length after = head_there bucket within in
          let is : get_or seen.buckets bucket [] ≡ chain bucket = chain_is bucket there in
          rw add-one (next_row after before rows row (rows + bucket) (rows + bucket) i (chain bucket) (l.round bucket there) (below bucket) (omega arith) (sym (ap (λ c. slice_get c i) is) ∙ at)
          ∙ ap (λ c. slice_get c (suc i)) (sym is))
      cases (inr past) = none_there (get_or seen.buckets bucket []) (get_or_past seen.buckets bucket [] past) at

  -- ---- a row that goes
  pub gone : (row last next : ℕ) → row < seen.rows → (bucket : ℕ) × (has row (get_or seen.buckets bucket []) ≡ true) → last ≡ get_or before row 0 → next ≡ get_or after row 0
      → IsChained rows (set after last next) (set before next last) (record seen { buckets = each (without row) seen.buckets })
  gone row last next small there last_is next_is = cases (cases_lt there.0 (length seen.buckets))
    where
      cases : (there.0 < length seen.buckets) ⊎ (length seen.buckets ≤ there.0) → IsChained rows (set after last next) (set before next last) (record seen { buckets = each (without row) seen.buckets })
      cases (inr past) = absurd (let no : has row [] ≡ true = sym (ap (has row) (get_or_past seen.buckets there.0 [] past)) ∙ there.1 in cc no)
      cases (inl within) =
          let head : rows + there.0 < length after = head_there there.0 within in
          let within_rows : row < rows = omega (arith, rows_are) in
          let round = round_row after before row (rows + there.0) (rows + there.0) (chain there.0) (l.round there.0 head) (sym (ap (has row) (chain_is there.0 head)) ∙ there.1) in
          let last_there : last < length after = rw last_is (All-get_or (λ node. node < length after) before row 0 (omega (arith, l.some, l.back)) l.befores) in
          let next_in : next < length after = rw next_is (All-get_or (λ node. node < length after) after row 0 (omega (arith, l.some)) l.afters) in
          let next_there : next < length before = omega (arith, l.back) in
          let leads_in : get_or after last 0 ≡ row = ap (λ n. get_or after n 0) last_is ∙ round.0 in
          let leads_out : get_or before next 0 ≡ row = ap (λ n. get_or before n 0) next_is ∙ round.1 in
          let long : length (set after last next) ≡ length after = length-set after last next in
          let back_long : length (set before next last) ≡ length before = length-set before next last in
          let new : ℕ → List ℕ = λ bucket. without row (chain bucket) in
          let leads : (bucket : ℕ) → rows + bucket < length (set after last next) → Leads (set after last next) (set before next last) (rows + bucket) (without row (chain bucket)) (rows + bucket) =
          λ bucket inside. let other : rows + bucket ≢ row = omega arith in
          unlinked after before row last next last_is next_is leads_in leads_out last_there next_there (chain bucket) (rows + bucket) (rows + bucket) other other (l.round bucket (omega arith)) in
          let small : (bucket : ℕ) → rows + bucket < length (set after last next) → Below rows (without row (chain bucket)) = λ bucket inside. all_without (λ r. r < rows) row (chain bucket) (below bucket) in
          let once : (bucket : ℕ) → rows + bucket < length (set after last next) → IsDistinct eqb (without row (chain bucket)) = λ bucket inside. once_without row (chain bucket) (l.once bucket (omega arith)) in
          let all : IsLinked rows (set after last next) (set before next last) =
          all_linked rows (set after last next) (set before next last) new leads small once (omega (arith, l.some)) (omega (arith, l.few)) (back_long ∙ l.back ∙ sym long)
          (subst (λ n. All (λ node. node < n) (set after last next)) (sym long) (All-set (λ node. node < length after) after last next next_in l.afters))
          (subst (λ n. All (λ node. node < n) (set before next last)) (sym long) (All-set (λ node. node < length after) before next last last_there l.befores)) in
          all_chained rows (set after last next) (set before next last) new leads small once (each (without row) seen.buckets) _ all
          (ap (λ r. record { rows = r; buckets = each (without row) seen.buckets }) rows_are)
          (length-map seen.buckets (without row) ∙ sym count_is ∙ ap (λ n. n - rows) (sym long))
          (λ bucket inside. let there_too : rows + bucket < length after = omega arith in
          get_or-map (without row) seen.buckets bucket [] [] (omega (arith, count_is)) ∙ ap (without row) (chain_is bucket there_too))

  -- ---- a row that comes
  abbrev new_chain : ℕ → ℕ → ℕ → List ℕ
  new_chain bucket row b = if eqb b bucket then row ∷ chain b else chain b

  leads_new : (bucket row next : ℕ) → bucket < length seen.buckets → next ≡ get_or after (rows + bucket) 0 → (b : ℕ) → rows + b < length after → rows + bucket < length after → row < length after → next < length after → row < rows → next ≢ row
      → get_or before next 0 ≡ rows + bucket → ((eqb b bucket ≡ true) × (b ≡ bucket)) ⊎ ((eqb b bucket ≡ false) × (b ≢ bucket)) → ((b : ℕ) → rows + b < length after → has row (chain b) ≡ false)
      → Leads (set (set after row next) (rows + bucket) row) (set (set before row (rows + bucket)) next row) (rows + b) (new_chain bucket row b) (rows + b)
  leads_new bucket row next within next_is b inside head_in row_in next_in within_rows next_other back (inl (e, same)) none =
      let apart : rows + bucket ≢ row = omega arith in
      let it = linked after before row (rows + bucket) next next_is back apart (chain bucket) (rows + bucket) head_in row_in (omega (arith, l.back)) (omega (arith, l.back)) next_other apart
      (apart_from rows (rows + bucket) (chain bucket) (omega arith) (below bucket)) (none bucket head_in) (l.round bucket head_in) in
      subst (λ t. Leads (set (set after row next) (rows + bucket) row) (set (set before row (rows + bucket)) next row) (rows + b) (if t then row ∷ chain b else chain b) (rows + b)) (sym e)
      (subst (λ k. Leads (set (set after row next) (rows + bucket) row) (set (set before row (rows + bucket)) next row) (rows + k) (row ∷ chain k) (rows + k)) (sym same) it)
  leads_new bucket row next within next_is b inside head_in row_in next_in within_rows next_other back (inr (e, differs)) none =
      let apart : rows + bucket ≢ row = omega arith in
      let unlike : rows + b ≢ row = omega arith in
      let other : rows + b ≢ rows + bucket = λ same. differs (omega arith) in
      subst (λ t. Leads (set (set after row next) (rows + bucket) row) (set (set before row (rows + bucket)) next row) (rows + b) (if t then row ∷ chain b else chain b) (rows + b)) (sym e)
      (stays_linked after before row (rows + bucket) next next_is back apart (chain b) (rows + b) (rows + b) other unlike unlike
      (apart_from rows (rows + bucket) (chain b) (omega arith) (below b)) (none b inside) (l.round b inside))

  below_new : (bucket row b : ℕ) → row < rows → (t : Bool) → Below rows (if t then row ∷ chain b else chain b)
  below_new bucket row b within_rows true = (within_rows, below b)
  below_new bucket row b within_rows false = below b

  once_new : (bucket row b : ℕ) → rows + b < length after → (t : Bool) → has row (chain b) ≡ false → IsDistinct eqb (if t then row ∷ chain b else chain b)
  once_new bucket row b inside true none = IsDistinct-cons eqb row (chain b) (none_of row (chain b) none) (l.once b inside)
  once_new bucket row b inside false none = l.once b inside

  read_new : (bucket row : ℕ) → bucket < length seen.buckets → (b : ℕ) → rows + b < length after → ((eqb b bucket ≡ true) × (b ≡ bucket)) ⊎ ((eqb b bucket ≡ false) × (b ≢ bucket))
      → get_or (set seen.buckets bucket (row ∷ get_or seen.buckets bucket [])) b [] ≡ new_chain bucket row b
  read_new bucket row within b inside (inl (e, same)) =
      ap (λ k. get_or (set seen.buckets bucket (row ∷ get_or seen.buckets bucket [])) k []) same
      ∙ get_or-set_same seen.buckets bucket (row ∷ get_or seen.buckets bucket []) [] within
      ∙ ap (λ k. row ∷ get_or seen.buckets k []) (sym same)
      ∙ ap (λ c. row ∷ c) (chain_is b inside)
      ∙ ap (λ t. if t then row ∷ chain b else chain b) (sym e)
  read_new bucket row within b inside (inr (e, differs)) =
      get_or-set_other seen.buckets bucket b (row ∷ get_or seen.buckets bucket []) [] differs
      ∙ chain_is b inside
      ∙ ap (λ t. if t then row ∷ chain b else chain b) (sym e)

  pub came : (bucket row next : ℕ) → bucket < length seen.buckets → row < seen.rows → All (λ c. has row c ≡ false) seen.buckets → next ≡ get_or after (rows + bucket) 0
      → IsChained rows (set (set after row next) (rows + bucket) row) (set (set before row (rows + bucket)) next row) (record seen { buckets = set seen.buckets bucket (row ∷ get_or seen.buckets bucket []) })
  came bucket row next within small free next_is =
      let head : ℕ = rows + bucket in
      let head_in : head < length after = head_there bucket within in
      let within_rows : row < rows = omega (arith, rows_are) in
      let row_in : row < length after = omega (arith, l.some) in
      let next_in : next < length after = rw next_is (All-get_or (λ node. node < length after) after head 0 head_in l.afters) in
      let apart : head ≢ row = omega arith in
      let none : (b : ℕ) → rows + b < length after → has row (chain b) ≡ false = λ b inside. sym (ap (has row) (chain_is b inside)) ∙ All-get_or (λ c. has row c ≡ false) seen.buckets b [] (omega (arith, count_is)) free in
      let back : get_or before next 0 ≡ head = ap (λ n. get_or before n 0) next_is ∙ first_back after before head head (chain bucket) (l.round bucket head_in) in
      let next_other : next ≢ row = λ same. first_other after before row head head (chain bucket) (l.round bucket head_in) (none bucket head_in) apart (sym next_is ∙ same) in
      let long : length (set (set after row next) head row) ≡ length after = length-set (set after row next) head row ∙ length-set after row next in
      let back_long : length (set (set before row head) next row) ≡ length before = length-set (set before row head) next row ∙ length-set before row head in
      let leads : (b : ℕ) → rows + b < length (set (set after row next) head row) → Leads (set (set after row next) head row) (set (set before row head) next row) (rows + b) (new_chain bucket row b) (rows + b) =
      λ b inside. leads_new bucket row next within next_is b (omega arith) head_in row_in next_in within_rows next_other back (eqb_tells b bucket) none in
      let under : (b : ℕ) → rows + b < length (set (set after row next) head row) → Below rows (new_chain bucket row b) = λ b inside. below_new bucket row b within_rows (eqb b bucket) in
      let once : (b : ℕ) → rows + b < length (set (set after row next) head row) → IsDistinct eqb (new_chain bucket row b) = λ b inside. once_new bucket row b (omega arith) (eqb b bucket) (none b (omega arith)) in
      let all : IsLinked rows (set (set after row next) head row) (set (set before row head) next row) =
      all_linked rows (set (set after row next) head row) (set (set before row head) next row) (new_chain bucket row) leads under once (omega (arith, l.some)) (omega (arith, l.few)) (back_long ∙ l.back ∙ sym long)
      (subst (λ n. All (λ node. node < n) (set (set after row next) head row)) (sym long)
      (All-set (λ node. node < length after) (set after row next) head row row_in (All-set (λ node. node < length after) after row next next_in l.afters)))
      (subst (λ n. All (λ node. node < n) (set (set before row head) next row)) (sym long)
      (All-set (λ node. node < length after) (set before row head) next row row_in (All-set (λ node. node < length after) before row head head_in l.befores))) in
      all_chained rows (set (set after row next) head row) (set (set before row head) next row) (new_chain bucket row) leads under once (set seen.buckets bucket (row ∷ get_or seen.buckets bucket [])) _ all
      (ap (λ r. record { rows = r; buckets = set seen.buckets bucket (row ∷ get_or seen.buckets bucket []) }) rows_are)
      (length-set seen.buckets bucket _ ∙ sym count_is ∙ ap (λ n. n - rows) (sym long))
      (λ b inside. read_new bucket row within b (omega arith) (eqb_tells b bucket))
