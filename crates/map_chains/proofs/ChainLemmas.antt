-- The links of chains: what they lead through, and where a row comes or goes.
use Rattle.std.proofs.Common.{◌≡◌, ◌≢◌, ℕ, zero, suc, ◌<◌, ◌≤◌, Bool, true, false, not, ◌||◌, if◌then◌else◌, eqb, Some, None, List, [], ◌∷◌, length, get_or, set, nat_lt, refl, sym, ap, subst, ◌∙◌, arith, ◌⊎◌, inl, inr, get_or-set_same, get_or-set_other, length-set}
use Rattle.std.specs.List.{AllByRecursion, slice_get}
use Rattle.std.proofs.lemmas.Bool.Decides.{nat_tests, eqb_tells}
use Rattle.map_chains.specs.Chains.{has, without, rows_from, row_after, Leads}

abbrev pub Below : ℕ → List ℕ → Type 0
Below rows chain = AllByRecursion (λ row. row < rows) chain

-- ---- what is read
-- the links lead through what is read along them
pub read_along : (after before : List ℕ) (rows more from to : ℕ) (chain : List ℕ) → Leads after before from chain to → Below rows chain → rows ≤ to → length chain ≤ more → rows_from after rows more from ≡ chain
unfolding rows_from
read_along after before rows zero from to [] leads below end long = refl
read_along after before rows (suc more) from to [] leads below end long =
    let past : nat_lt (get_or after from 0) rows ≡ false = ap (λ n. nat_lt n rows) leads.0 ∙ grind (arith, nat_tests) in
    ap (λ b. if b then get_or after from 0 ∷ rows_from after rows more (get_or after from 0) else []) past
read_along after before rows zero from to (row ∷ chain) leads below end long = absurd (omega arith)
read_along after before rows (suc more) from to (row ∷ chain) leads below end long =
    let less : row < rows = below.0 in
    let here : nat_lt (get_or after from 0) rows ≡ true = ap (λ n. nat_lt n rows) leads.0 ∙ grind (arith, nat_tests) in
    ap (λ b. if b then get_or after from 0 ∷ rows_from after rows more (get_or after from 0) else []) here
    ∙ ap (λ n. n ∷ rows_from after rows more n) leads.0
    ∙ ap (λ l. row ∷ l) (read_along after before rows more row to chain leads.2 below.1 end (omega arith))

pub below_read : (after : List ℕ) (rows more from : ℕ) → Below rows (rows_from after rows more from)
unfolding rows_from
below_read after rows zero from = tt
below_read after rows (suc more) from = cases (below_read after rows more (get_or after from 0)) (nat_lt (get_or after from 0) rows) refl
  where
    cases : Below rows (rows_from after rows more (get_or after from 0)) → (b : Bool) → nat_lt (get_or after from 0) rows ≡ b → Below rows (if b then get_or after from 0 ∷ rows_from after rows more (get_or after from 0) else [])
    cases rest true e = (let h : get_or after from 0 < rows = grind (arith, nat_tests) in h, rest)
    cases rest false e = tt

pub below_has : (rows row : ℕ) (chain : List ℕ) → Below rows chain → has row chain ≡ true → row < rows
below_has rows row [] below there = absurd (cc)
below_has rows row (x ∷ chain) below there = cases (below_has rows row chain below.1) (eqb_tells row x)
  where
    cases : (has row chain ≡ true → row < rows) → ((eqb row x ≡ true) × (row ≡ x)) ⊎ ((eqb row x ≡ false) × (row ≢ x)) → row < rows
    cases rest (inl (e, same)) = rw same below.0
    cases rest (inr (e, other)) = rest (sym (ap (λ b. b || has row chain) e) ∙ there)

pub all_without : (P : ℕ → Type 0) (row : ℕ) (chain : List ℕ) → AllByRecursion P chain → AllByRecursion P (without row chain)
all_without P row [] all = tt
all_without P row (x ∷ chain) all = cases (all_without P row chain all.1) (eqb row x)
  where
    cases : AllByRecursion P (without row chain) → (b : Bool) → AllByRecursion P (if not b then x ∷ without row chain else without row chain)
    cases rest true = rest
    cases rest false = (all.0, rest)

-- rows are apart from a node after them
pub apart_from : (rows head : ℕ) (chain : List ℕ) → rows ≤ head → Below rows chain → AllByRecursion (λ other. other ≢ head) chain
apart_from rows head [] behind below = tt
apart_from rows head (x ∷ chain) behind below =
    let less : x < rows = below.0 in
    let other : x ≢ head = omega arith in
    (other, apart_from rows head chain behind below.1)

-- the row after a node is the first of the chain that the links lead through from there
pub first_row : (after before : List ℕ) (rows from to : ℕ) (chain : List ℕ) → Leads after before from chain to → Below rows chain → rows ≤ to → row_after after rows from ≡ slice_get chain 0
first_row after before rows from to [] leads below end =
    let past : nat_lt (get_or after from 0) rows ≡ false = ap (λ n. nat_lt n rows) leads.0 ∙ grind (arith, nat_tests) in
    ap (λ b. if b then Some (get_or after from 0) else None) past
first_row after before rows from to (x ∷ chain) leads below end =
    let less : x < rows = below.0 in
    let here : nat_lt (get_or after from 0) rows ≡ true = ap (λ n. nat_lt n rows) leads.0 ∙ grind (arith, nat_tests) in
    ap (λ b. if b then Some (get_or after from 0) else None) here ∙ ap Some leads.0

pub next_row : (after before : List ℕ) (rows row from to i : ℕ) (chain : List ℕ) → Leads after before from chain to → Below rows chain → rows ≤ to → slice_get chain i ≡ Some row → row_after after rows row ≡ slice_get chain (suc i)
next_row after before rows row from to i [] leads below end at = absurd (let no : None ≡ Some row = at in cc no)
next_row after before rows row from to zero (x ∷ chain) leads below end at =
    let same : x ≡ row = cc at in
    ap (row_after after rows) (sym same) ∙ first_row after before rows x to chain leads.2 below.1 end
next_row after before rows row from to (suc i) (x ∷ chain) leads below end at = next_row after before rows row x to i chain leads.2 below.1 end at

-- ---- membership
pub has_other : (row x : ℕ) (chain : List ℕ) → has row (x ∷ chain) ≡ false → (row ≢ x) × (has row chain ≡ false)
has_other row x chain none = cases (eqb_tells row x)
  where
    cases : ((eqb row x ≡ true) × (row ≡ x)) ⊎ ((eqb row x ≡ false) × (row ≢ x)) → (row ≢ x) × (has row chain ≡ false)
    cases (inl (e, same)) = absurd (let no : true ≡ false = sym (ap (λ b. b || has row chain) e) ∙ none in cc no)
    cases (inr (e, other)) = (other, sym (ap (λ b. b || has row chain) e) ∙ none)

-- a row in a chain has the links round it
pub round_row : (after before : List ℕ) (row from to : ℕ) (chain : List ℕ) → Leads after before from chain to → has row chain ≡ true
    → (get_or after (get_or before row 0) 0 ≡ row) × (get_or before (get_or after row 0) 0 ≡ row)
round_row after before row from to [] leads there = absurd (cc)
round_row after before row from to (x ∷ chain) leads there = cases (round_row after before row x to chain leads.2) (eqb_tells row x)
  where
    leaves : (chain : List ℕ) → Leads after before x chain to → get_or before (get_or after x 0) 0 ≡ x
    leaves [] l = ap (λ n. get_or before n 0) l.0 ∙ l.1
    leaves (y ∷ ys) l = ap (λ n. get_or before n 0) l.0 ∙ l.1

    cases : (has row chain ≡ true → (get_or after (get_or before row 0) 0 ≡ row) × (get_or before (get_or after row 0) 0 ≡ row)) → ((eqb row x ≡ true) × (row ≡ x)) ⊎ ((eqb row x ≡ false) × (row ≢ x))
        → (get_or after (get_or before row 0) 0 ≡ row) × (get_or before (get_or after row 0) 0 ≡ row)
    cases rest (inl (e, same)) =
        let P : ℕ → Type 0 = λ r. (get_or after (get_or before r 0) 0 ≡ r) × (get_or before (get_or after r 0) 0 ≡ r) in
        subst P (sym same) (ap (λ n. get_or after n 0) leads.1 ∙ leads.0, leaves chain leads.2)
    cases rest (inr (e, other)) = rest (sym (ap (λ b. b || has row chain) e) ∙ there)

-- the first link of a chain comes back
pub first_back : (after before : List ℕ) (from to : ℕ) (chain : List ℕ) → Leads after before from chain to → get_or before (get_or after from 0) 0 ≡ from
first_back after before from to [] l = ap (λ n. get_or before n 0) l.0 ∙ l.1
first_back after before from to (y ∷ ys) l = ap (λ n. get_or before n 0) l.0 ∙ l.1

-- nor does it lead to a row that the chain does not have
pub first_other : (after before : List ℕ) (row from to : ℕ) (chain : List ℕ) → Leads after before from chain to → has row chain ≡ false → to ≢ row → get_or after from 0 ≢ row
first_other after before row from to [] l none other same = other (sym l.0 ∙ same)
first_other after before row from to (x ∷ chain) l none other same = (has_other row x chain none).0 (sym (sym l.0 ∙ same))

-- ---- a row that goes
module _ (after before : List ℕ) (row last next : ℕ) (last_is : last ≡ get_or before row 0) (next_is : next ≡ get_or after row 0)
    (leads_in : get_or after last 0 ≡ row) (leads_out : get_or before next 0 ≡ row) (last_there : last < length after) (next_there : next < length before) where
  kept_edge : (from to : ℕ) → get_or after from 0 ≡ to → get_or before to 0 ≡ from → from ≢ row → to ≢ row → (get_or (set after last next) from 0 ≡ to) × (get_or (set before next last) to 0 ≡ from)
  kept_edge from to e f other differs =
      let a : from ≢ last = λ same. differs (sym e ∙ ap (λ n. get_or after n 0) same ∙ leads_in) in
      let b : to ≢ next = λ same. other (sym f ∙ ap (λ n. get_or before n 0) same ∙ leads_out) in
      (get_or-set_other after last from next 0 a ∙ e, get_or-set_other before next to last 0 b ∙ f)

  new_edge : (get_or (set after last next) last 0 ≡ next) × (get_or (set before next last) next 0 ≡ last)
  new_edge = (get_or-set_same after last next 0 last_there, get_or-set_same before next last 0 next_there)

  -- the links lead round the row from a node other than it, and past it from the node before
  abbrev Around : List ℕ → ℕ → Type 0
  Around chain to =
      ((from : ℕ) → from ≢ row → Leads after before from chain to → Leads (set after last next) (set before next last) from (without row chain) to)
      × (last ≢ row → Leads after before row chain to → Leads (set after last next) (set before next last) last (without row chain) to)

  around : (chain : List ℕ) (to : ℕ) → to ≢ row → Around chain to
  around [] to differs = (
    λ from other leads. kept_edge from to leads.0 leads.1 other differs,
    λ other leads. let same : next ≡ to = next_is ∙ leads.0 in (new_edge.0 ∙ same, ap (λ n. get_or (set before next last) n 0) (sym same) ∙ new_edge.1),
  )
  around (x ∷ chain) to differs = (λ from other leads. first (around chain to differs) from other leads (eqb_tells row x), λ other leads. second (around chain to differs) other leads (eqb_tells row x))
    where
      first : Around chain to → (from : ℕ) → from ≢ row → Leads after before from (x ∷ chain) to → ((eqb row x ≡ true) × (row ≡ x)) ⊎ ((eqb row x ≡ false) × (row ≢ x)) → Leads (set after last next) (set before next last) from (without row (x ∷ chain)) to
      first rest from other leads (inl (e, same)) =
          let here : last ≡ from = last_is ∙ ap (λ r. get_or before r 0) same ∙ leads.1 in
          let apart : last ≢ row = λ q. other (sym here ∙ q) in
          let past = rest.1 apart (subst (λ r. Leads after before r chain to) (sym same) leads.2) in
          subst (λ b. Leads (set after last next) (set before next last) from (if not b then x ∷ without row chain else without row chain) to) (sym e)
          (subst (λ n. Leads (set after last next) (set before next last) n (without row chain) to) here past)
      first rest from other leads (inr (e, not_it)) =
          let edge = kept_edge from x leads.0 leads.1 other (λ q. not_it (sym q)) in
          subst (λ b. Leads (set after last next) (set before next last) from (if not b then x ∷ without row chain else without row chain) to) (sym e)
          (edge.0, edge.1, rest.0 x (λ q. not_it (sym q)) leads.2)

      second : Around chain to → last ≢ row → Leads after before row (x ∷ chain) to → ((eqb row x ≡ true) × (row ≡ x)) ⊎ ((eqb row x ≡ false) × (row ≢ x)) → Leads (set after last next) (set before next last) last (without row (x ∷ chain)) to
      second rest other leads (inl (e, same)) = absurd (other (last_is ∙ ap (λ r. get_or before r 0) same ∙ leads.1))
      second rest other leads (inr (e, not_it)) =
          let same : next ≡ x = next_is ∙ leads.0 in
          subst (λ b. Leads (set after last next) (set before next last) last (if not b then x ∷ without row chain else without row chain) to) (sym e)
          (new_edge.0 ∙ same, ap (λ n. get_or (set before next last) n 0) (sym same) ∙ new_edge.1, rest.0 x (λ q. not_it (sym q)) leads.2)

  pub unlinked : (chain : List ℕ) (from to : ℕ) → from ≢ row → to ≢ row → Leads after before from chain to → Leads (set after last next) (set before next last) from (without row chain) to
  unlinked chain from to other differs leads = (around chain to differs).0 from other leads

-- ---- a row that comes
module _ (after before : List ℕ) (row head next : ℕ) (next_is : next ≡ get_or after head 0) (back : get_or before next 0 ≡ head) (apart : head ≢ row) where
  abbrev after_put : List ℕ
  after_put = set (set after row next) head row

  abbrev before_put : List ℕ
  before_put = set (set before row head) next row

  -- a link that does not begin at the head stays
  old_edge : (from to : ℕ) → get_or after from 0 ≡ to → get_or before to 0 ≡ from → from ≢ head → from ≢ row → to ≢ row → (get_or after_put from 0 ≡ to) × (get_or before_put to 0 ≡ from)
  old_edge from to e f other differs unlike =
      let b : to ≢ next = λ same. other (sym f ∙ ap (λ n. get_or before n 0) same ∙ back) in (
        get_or-set_other (set after row next) head from row 0 other ∙ get_or-set_other after row from next 0 differs ∙ e,
        get_or-set_other (set before row head) next to row 0 b ∙ get_or-set_other before row to head 0 unlike ∙ f,
      )

  pub stays_linked : (chain : List ℕ) (from to : ℕ) → from ≢ head → from ≢ row → to ≢ row → AllByRecursion (λ other. other ≢ head) chain → has row chain ≡ false → Leads after before from chain to → Leads after_put before_put from chain to
  stays_linked [] from to other differs unlike heads none leads = old_edge from to leads.0 leads.1 other differs unlike
  stays_linked (x ∷ chain) from to other differs unlike heads none leads =
      let h = has_other row x chain none in
      let edge = old_edge from x leads.0 leads.1 other differs (λ q. h.0 (sym q)) in
      (edge.0, edge.1, stays_linked chain x to heads.0 (λ q. h.0 (sym q)) unlike heads.1 h.1 leads.2)

  pub linked : (chain : List ℕ) (to : ℕ) → head < length after → row < length after → row < length before → next < length before → next ≢ row → to ≢ row → AllByRecursion (λ other. other ≢ head) chain → has row chain ≡ false
      → Leads after before head chain to → Leads after_put before_put head (row ∷ chain) to
  linked chain to h_there r_there r_back n_back n_other unlike heads none leads = (starts, comes_back, goes_on chain heads none leads)
    where
      starts : get_or after_put head 0 ≡ row
      starts = get_or-set_same (set after row next) head row 0 (omega (arith, length-set after row next))

      comes_back : get_or before_put row 0 ≡ head
      comes_back = get_or-set_other (set before row head) next row row 0 (λ q. n_other (sym q)) ∙ get_or-set_same before row head 0 r_back

      out : get_or after_put row 0 ≡ next
      out = get_or-set_other (set after row next) head row row 0 (λ q. apart (sym q)) ∙ get_or-set_same after row next 0 r_there

      in_again : get_or before_put next 0 ≡ row
      in_again = get_or-set_same (set before row head) next row 0 (omega (arith, length-set before row head))

      goes_on : (chain : List ℕ) → AllByRecursion (λ other. other ≢ head) chain → has row chain ≡ false → Leads after before head chain to → Leads after_put before_put row chain to
      goes_on [] heads none leads = let same : next ≡ to = next_is ∙ leads.0 in (out ∙ same, ap (λ n. get_or before_put n 0) (sym same) ∙ in_again)
      goes_on (x ∷ chain) heads none leads =
          let h = has_other row x chain none in
          let same : next ≡ x = next_is ∙ leads.0 in
          (out ∙ same, ap (λ n. get_or before_put n 0) (sym same) ∙ in_again, stays_linked chain x to heads.0 (λ q. h.0 (sym q)) unlike heads.1 h.1 leads.2)
