-- Packets that stand one after the other.
use Rattle.std.proofs.Common.{◌≡◌, ℕ, ◌<◌, List, [], ◌∷◌, ◌++◌, length, take, drop, refl, sym, ◌∙◌, ap, subst, arith, take_at, drop_at}
use Rattle.thread_capture.specs.declared.order.Order.{Order}
use Rattle.thread_capture.specs.Captures.{StandsFirst, Stand}

-- one packet alone stands first
pub same_first : (order : Order) (bytes p q r s : List ℕ) → StandsFirst order bytes p r → StandsFirst order bytes q s → (p ≡ q) × (r ≡ s)
same_first order bytes p q r s one other =
    let size : length p ≡ length q = sym one.captured ∙ other.captured in
    let both : p ++ r ≡ q ++ s = sym one.behind ∙ other.behind in (
      sym (take_at p r (length p) refl) ∙ ap (take (length p)) both ∙ take_at q s (length p) (sym size),
      sym (drop_at p r (length p) refl) ∙ ap (drop (length p)) both ∙ drop_at q s (length p) (sym size),
    )

-- one more packet
pub stand_more : (order : Order) (bytes : List ℕ) (packets : List (List ℕ)) (rest packet behind : List ℕ) → Stand order bytes packets rest → StandsFirst order rest packet behind → Stand order bytes (packets ++ packet ∷ []) behind
stand_more order bytes [] rest packet behind stand first =
    let P : List ℕ → Type 0 = λ it. StandsFirst order it packet behind in
    (behind, subst P (sym stand) first, refl)
stand_more order bytes (p ∷ packets) rest packet behind stand first =
    (stand.0, stand.1, stand_more order stand.0 packets rest packet behind stand.2 first)

-- if some packets stand first, all packets are these and those of the rest
pub stand_rest : (order : Order) (bytes : List ℕ) (front : List (List ℕ)) (rest : List ℕ) (all : List (List ℕ)) → Stand order bytes front rest → Stand order bytes all [] → (left : List (List ℕ)) × (all ≡ front ++ left) × Stand order rest left []
stand_rest order bytes [] rest all stand whole =
    let P : List ℕ → Type 0 = λ it. Stand order it all [] in
    (all, refl, subst P stand whole)
stand_rest order bytes (p ∷ front) rest [] stand whole =
    absurd (let none : length bytes ≡ 0 = ap length whole in omega (arith, none, stand.1.header))
stand_rest order bytes (p ∷ front) rest (q ∷ all) stand whole =
    let same : (p ≡ q) × (stand.0 ≡ whole.0) = same_first order bytes p q stand.0 whole.0 stand.1 whole.1 in
    let P : List ℕ → Type 0 = λ it. Stand order it all [] in
    let more : (left : List (List ℕ)) × (all ≡ front ++ left) × Stand order rest left [] = stand_rest order stand.0 front rest all stand.2 (subst P (sym same.1) whole.2) in
    (more.0, ap (λ (it : List ℕ). it ∷ all) (sym same.0) ∙ ap (λ (it : List (List ℕ)). p ∷ it) more.1, more.2)

-- a rest that is not empty has packets
pub some_left : (order : Order) (rest : List ℕ) (left : List (List ℕ)) → 0 < length rest → Stand order rest left [] → 0 < length left
some_left order rest [] some stand = absurd (let none : length rest ≡ 0 = ap length stand in omega (arith, none, some))
some_left order rest (p ∷ left) some stand = omega arith

pub none_left : (order : Order) (rest : List ℕ) (left : List (List ℕ)) → 0 < length rest → ((packet behind : List ℕ) → StandsFirst order rest packet behind → ⊥) → Stand order rest left [] → ⊥
none_left order rest [] some none stand = let gone : length rest ≡ 0 = ap length stand in omega (arith, gone, some)
none_left order rest (p ∷ left) some none stand = none p stand.0 stand.1

pub first_left : (order : Order) (rest packet behind : List ℕ) (left : List (List ℕ)) → StandsFirst order rest packet behind → Stand order rest left [] → (others : List (List ℕ)) × (left ≡ packet ∷ others)
first_left order rest packet behind [] first stand = absurd (let gone : length rest ≡ 0 = ap length stand in omega (arith, gone, first.header))
first_left order rest packet behind (p ∷ left) first stand =
    (left, ap (λ (it : List ℕ). it ∷ left) (same_first order rest p packet stand.0 behind stand.1 first).0)
