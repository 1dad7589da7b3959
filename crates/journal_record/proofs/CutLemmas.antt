-- Lists cut in two, where the cut may lie past the end.
use Rattle.std.proofs.Common.{◌≡◌, ℕ, zero, suc, ◌+◌, ◌-◌, ◌<◌, ◌≤◌, List, [], ◌∷◌, ◌++◌, length, map, take, drop, reverse, refl, sym, ◌∙◌, ap, ap₂, arith}
use Rattle.std.proofs.lemmas.List.{append-nil, reverse-append, take-append-drop, take-append-le, take_all, take_at, drop_all, drop_at, drop-drop, drop-map, length-append, length-map, length-reverse, length-drop, length-take-le}
use Rattle.journal_record.specs.Cut.{behind, between}

take-nil : {X : Type 0} (n : ℕ) → ◌≡◌ {A = List X} (take n []) []
take-nil zero = refl
take-nil (suc n) = refl

less-suc : (n k : ℕ) → suc n - suc k ≡ n - k
less-suc n k = omega arith

-- a front of two lists, and what it leaves of the first
pub take-overlap : {X : Type 0} (n : ℕ) (xs ys : List X) → take n (xs ++ ys) ++ drop n xs ≡ xs ++ take (n - length xs) ys
take-overlap zero xs ys = let e : 0 ≡ 0 - length xs = omega arith in sym (append-nil xs) ∙ ap (λ k. xs ++ take k ys) e
take-overlap (suc n) [] ys = let e : suc n ≡ suc n - 0 = omega arith in append-nil (take (suc n) ys) ∙ ap (λ k. take k ys) e
take-overlap (suc n) (x ∷ xs) ys = ap (λ zs. x ∷ zs) (take-overlap n xs ys) ∙ ap (λ k. x ∷ (xs ++ take k ys)) (sym (less-suc n (length xs)))

pub drop-append : {X : Type 0} (n : ℕ) (xs ys : List X) → drop n (xs ++ ys) ≡ drop n xs ++ drop (n - length xs) ys
drop-append zero xs ys = let e : 0 ≡ 0 - length xs = omega arith in ap (λ k. xs ++ drop k ys) e
drop-append (suc n) [] ys = let e : suc n ≡ suc n - 0 = omega arith in ap (λ k. drop k ys) e
drop-append (suc n) (x ∷ xs) ys = drop-append n xs ys ∙ ap (λ k. drop n xs ++ drop k ys) (sym (less-suc n (length xs)))

pub drop-taken : {X : Type 0} (n k : ℕ) (xs : List X) → drop n (take k xs) ≡ take (k - n) (drop n xs)
drop-taken zero k xs = let e : k ≡ k - 0 = omega arith in ap (λ i. take i xs) e
drop-taken (suc n) zero xs = let e : 0 ≡ 0 - suc n = omega arith in ap (λ i. take i (drop (suc n) xs)) e
drop-taken (suc n) (suc k) [] = sym (take-nil (suc k - suc n))
drop-taken (suc n) (suc k) (x ∷ xs) = drop-taken n k xs ∙ ap (λ i. take i (drop n xs)) (sym (less-suc k n))

pub nothing_dropped : {X : Type 0} (n : ℕ) (xs : List X) → (0 < n → length xs ≡ 0) → drop n xs ≡ xs
nothing_dropped zero xs h = refl
nothing_dropped (suc n) [] h = refl
nothing_dropped (suc n) (x ∷ xs) h = absurd (let e : length (x ∷ xs) ≡ 0 = h (omega arith) in omega arith)

-- all but the last of a list, and the list the other way round
pub reverse-taken : {X : Type 0} (n : ℕ) (xs : List X) → reverse (take (length xs - n) xs) ≡ drop n (reverse xs)
reverse-taken {X} n xs =
    let i : ℕ = length xs - n in
    let rest : List X = reverse (drop i xs) in
    let front : List X = reverse (take i xs) in
    let rest_length : length rest ≡ length xs - i = length-reverse (drop i xs) ∙ length-drop i xs in
    let front_length : length front ≡ i = length-reverse (take i xs) ∙ length-take-le i xs (omega arith) in
    sym (ap (λ zs. drop n (reverse zs)) (sym (take-append-drop i xs))
    ∙ ap (drop n) (reverse-append (take i xs) (drop i xs))
    ∙ drop-append n rest front
    ∙ ap₂ (λ zs ws. zs ++ ws) (drop_all n rest (omega arith)) (nothing_dropped (n - length rest) front (λ more. omega arith)))

-- ---- a list cut in three, if it can be
-- the last so many
pub length-behind : {X : Type 0} (stays : ℕ) (xs : List X) → stays ≤ length xs → length (behind stays xs) ≡ stays
length-behind stays xs within = omega (arith, length-drop (length xs - stays) xs, within)

pub behind-none : {X : Type 0} (stays : ℕ) (xs : List X) → stays ≡ 0 → behind stays xs ≡ []
behind-none stays xs none = drop_all (length xs - stays) xs (omega (arith, none))

pub behind-append : {X : Type 0} (stays : ℕ) (xs ys : List X) → length ys ≡ stays → behind stays (xs ++ ys) ≡ ys
behind-append stays xs ys e = drop_at xs ys (length (xs ++ ys) - stays) (omega (arith, length-append xs ys, e))

pub behind-map : {X Y : Type 0} (f : X → Y) (stays : ℕ) (xs : List X) → behind stays (map f xs) ≡ map f (behind stays xs)
behind-map f stays xs = ap (λ n. drop (n - stays) (map f xs)) (length-map xs f) ∙ drop-map f (length xs - stays) xs

-- and those between them and the first so many
pub length-between : {X : Type 0} (at stays : ℕ) (xs : List X) → at + stays ≤ length xs → length (between at stays xs) ≡ (length xs - stays) - at
length-between at stays xs within = length-take-le ((length xs - stays) - at) (drop at xs) (omega (arith, length-drop at xs))

pub between-all : {X : Type 0} (at stays : ℕ) (xs : List X) → stays ≡ 0 → between at stays xs ≡ drop at xs
between-all at stays xs none = take_all ((length xs - stays) - at) (drop at xs) (omega (arith, length-drop at xs, none))

pub between-append : {X : Type 0} (at stays : ℕ) (xs ys zs : List X) → length xs ≡ at → length zs ≡ stays → between at stays (xs ++ (ys ++ zs)) ≡ ys
between-append at stays xs ys zs front rear =
    ap (take ((length (xs ++ (ys ++ zs)) - stays) - at)) (drop_at xs (ys ++ zs) at front)
    ∙ take_at ys zs ((length (xs ++ (ys ++ zs)) - stays) - at) (omega (arith, length-append xs (ys ++ zs), length-append ys zs, front, rear))

pub in_three : {X : Type 0} (at stays : ℕ) (xs : List X) → at + stays ≤ length xs → take at xs ++ (between at stays xs ++ behind stays xs) ≡ xs
in_three at stays xs within =
    let k : ℕ = (length xs - stays) - at in
    let past : length xs - stays ≡ at + k = omega (arith, within) in
    ap (λ ys. take at xs ++ (take k (drop at xs) ++ ys)) (ap (λ i. drop i xs) past ∙ sym (drop-drop k at xs))
    ∙ ap (λ ys. take at xs ++ ys) (take-append-drop k (drop at xs))
    ∙ take-append-drop at xs

-- without the first so many, of which none is among the last
pub behind-dropped : {X : Type 0} (n at stays : ℕ) (xs : List X) → at + stays ≤ length xs → (0 < stays → n ≤ at) → behind stays (drop n xs) ≡ behind stays xs
behind-dropped n at zero xs within reach = behind-none 0 (drop n xs) refl ∙ sym (behind-none 0 xs refl)
behind-dropped n at (suc k) xs within reach =
    let below : n ≤ at = reach (omega arith) in
    drop-drop (length (drop n xs) - suc k) n xs ∙ ap (λ i. drop i xs) (omega (arith, length-drop n xs, below, within))

pub between-dropped : {X : Type 0} (n at stays : ℕ) (xs : List X) → at + stays ≤ length xs → n ≤ at → between (at - n) stays (drop n xs) ≡ between at stays xs
between-dropped n at stays xs within below =
    ap (λ ys. take ((length (drop n xs) - stays) - (at - n)) ys) (drop-drop (at - n) n xs ∙ ap (λ i. drop i xs) (omega (arith, below)))
    ∙ ap (λ k. take k (drop at xs)) (omega (arith, length-drop n xs, below, within))

-- a front that does not reach the last so many
pub take_reach : {X : Type 0} (n stays at : ℕ) (xs zs : List X) → at ≤ length xs → (0 < stays → n ≤ at) → take n (xs ++ behind stays zs) ≡ take n xs
take_reach n zero at xs zs within reach = ap (take n) (ap (λ ys. xs ++ ys) (behind-none 0 zs refl) ∙ append-nil xs)
take_reach n (suc k) at xs zs within reach = let below : n ≤ at = reach (omega arith) in take-append-le n xs (behind (suc k) zs) (omega (arith, below, within))

-- two lists that begin alike are the same where they go on, if they begin so past there
pub same_next : {X : Type 0} (n : ℕ) (front : List X) (x y : X) (xs ys : List X) → length front < n → take n (front ++ x ∷ xs) ≡ take n (front ++ y ∷ ys) → x ≡ y
same_next zero front x y xs ys past e = absurd (omega (arith, past))
same_next (suc n) [] x y xs ys past e = cc
same_next (suc n) (z ∷ front) x y xs ys past e = same_next n front x y xs ys (omega (arith, past)) cc
