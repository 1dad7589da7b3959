-- What moves of rows in their slots mean for the positions of a block, and what a row handed from block to block leaves.
use Rattle.std.proofs.Common.{◌≡◌, ◌≢◌, ℕ, ◌+◌, ◌-◌, ◌*◌, ◌/◌, ◌%◌, ◌<◌, ◌≤◌, List, get_or, refl, sym, ap, ◌∙◌, arith, ◌⊎◌, inl, inr}
use Rattle.std.proofs.lemmas.Bool.{cases_lt}
use Rattle.map_order.specs.Blocks.{slot_of, Pushes, MovesUp}

-- ---- the slots of a block
-- a position is so far after the first of its block
pub record IsIn (block far place : ℕ) : Type 0 where
  pub near : far < 512
  pub is : place ≡ block * 512 + far

pub its_block : (place : ℕ) → IsIn (place / 512) (place % 512) place
its_block place = record { near = omega arith; is = omega arith }

block_is : (block far place : ℕ) → IsIn block far place → place / 512 ≡ block
block_is block far place p = omega (arith, p.near, p.is)

slot_in : (starts : List ℕ) (block far place : ℕ) → IsIn block far place → slot_of starts place ≡ block * 512 + (get_or starts block 0 + place) % 512
slot_in starts block far place p = ap (λ b. b * 512 + (get_or starts b 0 + place) % 512) (block_is block far place p)

-- before the end of the ring, and round it
slot_near : (starts : List ℕ) (block far place : ℕ) → IsIn block far place → get_or starts block 0 % 512 + far < 512 → slot_of starts place ≡ block * 512 + (get_or starts block 0 % 512 + far)
slot_near starts block far place p near =
    let start : ℕ = get_or starts block 0 in
    let is : (start + place) % 512 ≡ start % 512 + far = omega (arith, p.near, p.is) in
    slot_in starts block far place p ∙ ap (λ n. block * 512 + n) is

slot_round : (starts : List ℕ) (block far place : ℕ) → IsIn block far place → 512 ≤ get_or starts block 0 % 512 + far → slot_of starts place ≡ block * 512 + (get_or starts block 0 % 512 + far - 512)
slot_round starts block far place p round =
    let start : ℕ = get_or starts block 0 in
    let is : (start + place) % 512 ≡ start % 512 + far - 512 = omega (arith, p.near, p.is) in
    slot_in starts block far place p ∙ ap (λ n. block * 512 + n) is

slot_before : (starts : List ℕ) (block place : ℕ) → place < block * 512 → slot_of starts place < block * 512
slot_before starts block place lt =
    let inside : (get_or starts (place / 512) 0 + place) % 512 < 512 = omega arith in
    let less : place / 512 + 1 ≤ block = omega arith in
    omega arith

slot_behind : (starts : List ℕ) (block place : ℕ) → block * 512 + 512 ≤ place → block * 512 + 512 ≤ slot_of starts place
slot_behind starts block place le =
    let more : block + 1 ≤ place / 512 = omega arith in
    omega arith

-- what stands at two positions was exchanged
pub record Swaps (old new : ℕ → ℕ) (a b : ℕ) : Type 0 where
  pub first : new a ≡ old b
  pub second : new b ≡ old a
  pub others : (i : ℕ) → i ≢ a → i ≢ b → new i ≡ old i

module _ (starts : List ℕ) (place : ℕ) where
  block : ℕ
  block = place / 512

  abbrev pub base : ℕ
  base = place / 512 * 512

  abbrev pub first : ℕ
  first = get_or starts (place / 512) 0 % 512

  abbrev pub to : ℕ
  to = get_or starts (place / 512) 0 % 512 + place % 512

  abbrev slot : ℕ → ℕ
  slot = slot_of starts

  -- a position of the block, by how far it is after the base
  at : (i : ℕ) → base ≤ i → i < base + 512 → IsIn (place / 512) (i - base) i
  at i le lt = record { near = omega arith; is = omega arith }

  slot_base : slot base ≡ base + first
  slot_base =
      let here : IsIn (place / 512) 0 base = record { near = omega arith; is = omega arith } in
      let e : slot base ≡ base + (first + 0) = slot_near starts (place / 512) 0 base here (omega arith) in
      omega (arith, e)

  pub moved_straight : (old new : ℕ → ℕ) → to < 512 → MovesUp old new (base + first) (base + to) → MovesUp (λ i. old (slot_of starts i)) (λ i. new (slot_of starts i)) base place
  moved_straight old new straight m =
      record {
        below = λ i lt. m.below (slot i) (let less : slot i < base = slot_before starts (place / 512) i lt in omega arith);
        between = λ i le lt.
            let here : slot i ≡ base + (first + (i - base)) = slot_near starts (place / 512) (i - base) i (at i le (omega arith)) (omega arith) in
            let next : slot (i + 1) ≡ base + (first + (i + 1 - base)) = slot_near starts (place / 512) (i + 1 - base) (i + 1) (at (i + 1) (omega arith) (omega arith)) (omega arith) in
            let there : slot i + 1 ≡ slot (i + 1) = omega (arith, here, next) in
            m.between (slot i) (omega (arith, here)) (omega (arith, here)) ∙ ap old there;
        here =
            let here : slot place ≡ base + to = slot_near starts (place / 512) (place % 512) place (its_block place) straight in
            ap new here ∙ m.here ∙ ap old (sym slot_base);
        above = λ i lt. apart i lt (cases_lt i (base + 512));
      }
    where
      near_or_round : (i : ℕ) → place < i → (p : IsIn (place / 512) (i - base) i) → (first + (i - base) < 512) ⊎ (512 ≤ first + (i - base)) → new (slot i) ≡ old (slot i)
      near_or_round i lt p (inl near) =
          let here : slot i ≡ base + (first + (i - base)) = slot_near starts (place / 512) (i - base) i p near in
          m.above (slot i) (omega (arith, here))
      near_or_round i lt p (inr round) =
          let here : slot i ≡ base + (first + (i - base) - 512) = slot_round starts (place / 512) (i - base) i p round in
          let close : i - base < 512 = p.near in
          m.below (slot i) (omega (arith, here))

      apart : (i : ℕ) → place < i → (i < base + 512) ⊎ (base + 512 ≤ i) → new (slot i) ≡ old (slot i)
      apart i lt (inl inside) = near_or_round i lt (at i (omega arith) inside) (cases_lt (first + (i - base)) 512)
      apart i lt (inr outside) =
          let far : base + 512 ≤ slot i = slot_behind starts (place / 512) i outside in
          m.above (slot i) (omega arith)

  pub moved_round : (old mid turned new : ℕ → ℕ) → 512 ≤ to → MovesUp old mid (base + first) (base + 511) → Swaps mid turned (base + 511) base → MovesUp turned new base (base + (to - 512))
      → MovesUp (λ i. old (slot_of starts i)) (λ i. new (slot_of starts i)) base place
  moved_round old mid turned new round m s n =
      record {
        below = λ i lt.
            let less : slot i < base = slot_before starts (place / 512) i lt in
            n.below (slot i) less ∙ s.others (slot i) (λ e. absurd (omega (arith, e))) (λ e. absurd (omega (arith, e))) ∙ m.below (slot i) (omega arith);
        between = λ i le lt. between i le lt (at i le (omega arith)) (cases_lt (first + (i - base)) 512);
        here =
            let here : slot place ≡ base + (to - 512) = slot_round starts (place / 512) (place % 512) place (its_block place) round in
            ap new here ∙ n.here ∙ s.second ∙ m.here ∙ ap old (sym slot_base);
        above = λ i lt. apart i lt (cases_lt i (base + 512));
      }
    where
      some : 1 ≤ first
      some = omega arith

      small : first < 512
      small = omega arith

      before_end : (i : ℕ) → base ≤ i → i < place → (p : IsIn (place / 512) (i - base) i) → (first + (i - base) < 511) ⊎ (511 ≤ first + (i - base)) → first + (i - base) < 512 → new (slot i) ≡ old (slot (i + 1))
      before_end i le lt p (inl less) near =
          let here : slot i ≡ base + (first + (i - base)) = slot_near starts (place / 512) (i - base) i p near in
          let next : slot (i + 1) ≡ base + (first + (i + 1 - base)) = slot_near starts (place / 512) (i + 1 - base) (i + 1) (at (i + 1) (omega arith) (omega arith)) (omega arith) in
          let there : slot i + 1 ≡ slot (i + 1) = omega (arith, here, next) in
          let start : 1 ≤ first = some in
          n.above (slot i) (omega (arith, here))
          ∙ s.others (slot i) (λ e. absurd (omega (arith, here, e))) (λ e. absurd (omega (arith, here, e)))
          ∙ m.between (slot i) (omega (arith, here)) (omega (arith, here))
          ∙ ap old there
      before_end i le lt p (inr last) near =
          let here : slot i ≡ base + 511 = slot_near starts (place / 512) (i - base) i p near ∙ (omega arith) in
          let next : slot (i + 1) ≡ base + (first + (i + 1 - base) - 512) = slot_round starts (place / 512) (i + 1 - base) (i + 1) (at (i + 1) (omega arith) (omega arith)) (omega arith) in
          let there : base ≡ slot (i + 1) = omega (arith, next) in
          let start : 1 ≤ first = some in
          let close : first < 512 = small in
          ap new here ∙ n.above (base + 511) (omega arith) ∙ s.first ∙ m.below base (omega arith) ∙ ap old there

      between : (i : ℕ) → base ≤ i → i < place → (p : IsIn (place / 512) (i - base) i) → (first + (i - base) < 512) ⊎ (512 ≤ first + (i - base)) → new (slot i) ≡ old (slot (i + 1))
      between i le lt p (inl near) = before_end i le lt p (cases_lt (first + (i - base)) 511) near
      between i le lt p (inr far) =
          let here : slot i ≡ base + (first + (i - base) - 512) = slot_round starts (place / 512) (i - base) i p far in
          let next : slot (i + 1) ≡ base + (first + (i + 1 - base) - 512) = slot_round starts (place / 512) (i + 1 - base) (i + 1) (at (i + 1) (omega arith) (omega arith)) (omega arith) in
          let there : slot i + 1 ≡ slot (i + 1) = omega (arith, here, next) in
          let close : first < 512 = small in
          n.between (slot i) (omega (arith, here)) (omega (arith, here))
          ∙ s.others (slot i + 1) (λ e. absurd (omega (arith, here, e))) (λ e. absurd (omega (arith, here, e)))
          ∙ m.below (slot i + 1) (omega (arith, here))
          ∙ ap old there

      apart : (i : ℕ) → place < i → (i < base + 512) ⊎ (base + 512 ≤ i) → new (slot i) ≡ old (slot i)
      apart i lt (inl inside) =
          let p : IsIn (place / 512) (i - base) i = at i (omega arith) inside in
          let here : slot i ≡ base + (first + (i - base) - 512) = slot_round starts (place / 512) (i - base) i p (omega arith) in
          let close : first < 512 = small in
          n.above (slot i) (omega (arith, here))
          ∙ s.others (slot i) (λ e. absurd (omega (arith, here, e))) (λ e. absurd (omega (arith, here, e)))
          ∙ m.below (slot i) (omega (arith, here))
      apart i lt (inr outside) =
          let far : base + 512 ≤ slot i = slot_behind starts (place / 512) i outside in
          let close : first < 512 = small in
          n.above (slot i) (omega arith)
          ∙ s.others (slot i) (λ e. absurd (omega (arith, e))) (λ e. absurd (omega (arith, e)))
          ∙ m.above (slot i) (omega arith)

-- ---- a row handed on, on the way: the blocks before an end did so
pub record Carries (old new : ℕ → ℕ) (place end row carried : ℕ) : Type 0 where
  pub order : place ≤ end
  pub begun : place ≡ end → carried ≡ row
  pub below : (i : ℕ) → i < place → new i ≡ old i
  pub here : place < end → new place ≡ row
  pub further : (i : ℕ) → place ≤ i → i + 1 < end → new (i + 1) ≡ old i
  pub handed : (i : ℕ) → place ≤ i → i + 1 ≡ end → old i ≡ carried
  pub above : (i : ℕ) → end ≤ i → new i ≡ old i

pub carries_none : (rows : ℕ → ℕ) (place row : ℕ) → Carries rows rows place place row row
carries_none rows place row = record {
  order = omega arith;
  begun = λ e. refl;
  below = λ i lt. refl;
  here = λ lt. absurd (omega arith);
  further = λ i le lt. absurd (omega arith);
  handed = λ i le e. absurd (omega arith);
  above = λ i le. refl;
}

pub carries_more : (old mid new : ℕ → ℕ) (place end row carried last : ℕ) → Carries old mid place end row carried → Pushes mid new end (end + 512) carried last → Carries old new place (end + 512) row last
carries_more old mid new place end row carried last c p =
    let order : place ≤ end = c.order in
    record {
      order = omega arith;
      begun = λ e. absurd (omega arith);
      below = λ i lt. p.below i (omega arith) ∙ c.below i lt;
      here = λ lt. here (cases_lt place end);
      further = λ i le lt. further i le lt (cases_lt (i + 1) end) (cases_lt i end);
      handed = λ i le e. sym (c.above i (omega arith)) ∙ p.handed i e;
      above = λ i le. p.above i le ∙ c.above i (omega arith);
    }
  where
    here : (place < end) ⊎ (end ≤ place) → new place ≡ row
    here (inl lt) = p.below place lt ∙ c.here lt
    here (inr le) = let order : place ≤ end = c.order in let same : place ≡ end = omega arith in ap new same ∙ p.here ∙ c.begun same

    further : (i : ℕ) → place ≤ i → i + 1 < end + 512 → (i + 1 < end) ⊎ (end ≤ i + 1) → (i < end) ⊎ (end ≤ i) → new (i + 1) ≡ old i
    further i le lt (inl less) either = p.below (i + 1) less ∙ c.further i le less
    further i le lt (inr more) (inl less) = let same : i + 1 ≡ end = omega arith in ap new same ∙ p.here ∙ sym (c.handed i le same)
    further i le lt (inr more) (inr from) = p.further i from (omega arith) ∙ c.above i from

pub carries_all : (old new : ℕ → ℕ) (place end row carried : ℕ) → Carries old new place end row carried → place < end → (last : ℕ) → ((i : ℕ) → i + 1 ≡ end → old i ≡ last) → Pushes old new place end row last
carries_all old new place end row carried c some last is = record { below = c.below; here = c.here some; further = c.further; handed = is; above = c.above }

-- ---- and handed back: the blocks from one on did so
pub record Returns (old new : ℕ → ℕ) (from end carried : ℕ) : Type 0 where
  pub below : (i : ℕ) → i < from → old i ≡ new i
  pub first : from < end → old from ≡ carried
  pub further : (i : ℕ) → from ≤ i → i + 1 < end → old (i + 1) ≡ new i
  pub above : (i : ℕ) → end ≤ i → old i ≡ new i

pub returns_none : (rows : ℕ → ℕ) (end carried : ℕ) → Returns rows rows end end carried
returns_none rows end carried = record { below = λ i lt. refl; first = λ lt. absurd (omega arith); further = λ i le lt. absurd (omega arith); above = λ i le. refl }

pub returns_more : (old mid new : ℕ → ℕ) (from end carried row : ℕ) → Returns old mid (from + 512) end carried → from + 512 ≤ end → Pushes new mid from (from + 512) row carried → Returns old new from end row
returns_more old mid new from end carried row r within p = record {
  below = λ i lt. r.below i (omega arith) ∙ p.below i lt;
  first = λ lt. r.below from (omega arith) ∙ p.here;
  further = λ i le lt. further i le lt (cases_lt (i + 1) (from + 512)) (cases_lt i (from + 512));
  above = λ i le. r.above i le ∙ p.above i (omega arith);
}
  where
    further : (i : ℕ) → from ≤ i → i + 1 < end → (i + 1 < from + 512) ⊎ (from + 512 ≤ i + 1) → (i < from + 512) ⊎ (from + 512 ≤ i) → old (i + 1) ≡ new i
    further i le lt (inl less) either = r.below (i + 1) less ∙ p.further i le less
    further i le lt (inr more) (inl less) = let same : i + 1 ≡ from + 512 = omega arith in ap old same ∙ r.first (omega arith) ∙ sym (p.handed i same)
    further i le lt (inr more) (inr behind) = r.further i behind lt ∙ p.above i behind

pub returns_all : (old new : ℕ → ℕ) (place end row : ℕ) → Returns old new place end row → place < end → (last : ℕ) → ((i : ℕ) → i + 1 ≡ end → new i ≡ last) → Pushes new old place end row last
returns_all old new place end row r some last is = record { below = r.below; here = r.first some; further = r.further; handed = is; above = r.above }

pub record IsHandedBack (old new : ℕ → ℕ) (block last place carried : ℕ) : Type 0 where
  pub order : block ≤ place
  pub within : place ≤ last + 1
  pub rows : Returns old new (place * 512) (last * 512 + 512) carried
