-- A list of moments of which the first so many are in force, and how they show.
use Rattle.std.proofs.Common.{◌≡◌, ℕ, ◌+◌, ◌-◌, ◌≤◌, ◌<◌, List, [], ◌∷◌, ◌++◌, length, map as each, get_or, set, take, drop, sym, ◌∙◌, ap, arith}
use Rattle.std.proofs.lemmas.List.{take-append-drop, map-append, length-append, length-map, take_more, drop_more, take_more_set, take-set, drop-set, drop-set-lt, take_all, drop_all, length-take-le, drop-map, get_or-take}

module _ {X Y : Type 0} (f : X → Y) where
  push : (xs ys : List X) (x : X) → ys ≡ xs ++ x ∷ [] → each f ys ≡ each f xs ++ f x ∷ []
  push xs ys x e = ap (each f) e ∙ map-append f xs (x ∷ [])

  pub within : (n : ℕ) (xs : List X) → length (each f (take n xs)) ≡ n → n ≤ length xs
  within n xs e = omega (arith, e, length-map (take n xs) f, ap length (take-append-drop n xs), length-append (take n xs) (drop n xs))

  pub count_undone : (n : ℕ) (xs : List X) → length (each f (take n xs)) ≡ n → length (each f (drop n xs)) + n ≡ length xs
  count_undone n xs e = omega (arith, e, length-map (take n xs) f, length-map (drop n xs) f, ap length (take-append-drop n xs), length-append (take n xs) (drop n xs))

  -- the last that stood is exchanged, and stands no more
  pub last_stood : (n : ℕ) (xs : List X) (m y : X) → 1 ≤ n → length (each f (take n xs)) ≡ n → m ≡ get_or xs (n - 1) m → each f (take n xs) ≡ each f (take (n - 1) (set xs (n - 1) y)) ++ f m ∷ []
  last_stood n xs m y some e r =
      let k : ℕ = n - 1 in
      push (take k (set xs k y)) (take n xs) m
      (ap (λ i. take i xs) (omega (arith, some)) ∙ take_more xs k m (omega (arith, some, within n xs e)) ∙ ap (λ x. take k xs ++ x ∷ []) (sym r) ∙ ap (λ ys. ys ++ m ∷ []) (sym (take-set xs k y)))

  pub last_lies : (n : ℕ) (xs : List X) (y : X) → 1 ≤ n → length (each f (take n xs)) ≡ n → each f (drop (n - 1) (set xs (n - 1) y)) ≡ f y ∷ each f (drop n xs)
  last_lies n xs y some e = ap (each f) (drop-set xs (n - 1) y (omega (arith, some, within n xs e)) ∙ ap (λ i. y ∷ drop i xs) (omega (arith, some)))

  pub fewer_stand : (n : ℕ) (xs : List X) (y : X) → length (each f (take n xs)) ≡ n → length (each f (take (n - 1) (set xs (n - 1) y))) ≡ n - 1
  fewer_stand n xs y e = length-map (take (n - 1) (set xs (n - 1) y)) f ∙ ap length (take-set xs (n - 1) y) ∙ length-take-le (n - 1) xs (omega (arith, within n xs e))

  -- the next that lay is exchanged, and stands
  pub next_lay : (n : ℕ) (xs : List X) (m y : X) → n < length xs → m ≡ get_or xs n m → each f (drop n xs) ≡ f m ∷ each f (drop (n + 1) (set xs n y))
  next_lay n xs m y l r =
      ap (each f) (drop_more xs n m l ∙ ap (λ x. x ∷ drop (n + 1) xs) (sym r) ∙ ap (λ ys. m ∷ ys) (sym (drop-set-lt (n + 1) xs n y (omega arith))))

  pub next_stands : (n : ℕ) (xs : List X) (y : X) → n < length xs → each f (take (n + 1) (set xs n y)) ≡ each f (take n xs) ++ f y ∷ []
  next_stands n xs y l = push (take n xs) (take (n + 1) (set xs n y)) y (take_more_set xs n y l)

  pub more_stand : (n : ℕ) (xs : List X) (y : X) → n < length xs → length (each f (take (n + 1) (set xs n y))) ≡ n + 1
  more_stand n xs y l = ap length (next_stands n xs y l) ∙ length-append (each f (take n xs)) (f y ∷ []) ∙ ap (λ i. i + 1) (length-map (take n xs) f ∙ length-take-le n xs (omega (arith, l)))

  -- those past so many
  pub next_past : (k n : ℕ) (xs : List X) (m : X) → k < n → n ≤ length xs → m ≡ get_or xs k m → drop k (each f (take n xs)) ≡ f m ∷ drop (k + 1) (each f (take n xs))
  next_past k n xs m l w r =
      let ys : List X = take n xs in
      let len : length ys ≡ n = length-take-le n xs w in
      let read : get_or ys k m ≡ m = get_or-take n xs k m l ∙ sym r in
      drop-map f k ys ∙ ap (each f) (drop_more ys k m (omega (arith, l, len))) ∙ ap (λ x. f x ∷ each f (drop (k + 1) ys)) read ∙ ap (λ zs. f m ∷ zs) (sym (drop-map f (k + 1) ys))

  -- those that lay are given up, and one more stands
  pub pushed_stands : (n : ℕ) (xs ys : List X) (y : X) → ys ≡ take n xs ++ y ∷ [] →
      (each f (take (length ys) ys) ≡ each f (take n xs) ++ f y ∷ []) × (each f (drop (length ys) ys) ≡ []) × (length (each f (take (length ys) ys)) ≡ length ys)
  pushed_stands n xs ys y e =
      (push (take n xs) (take (length ys) ys) y (take_all (length ys) ys (omega arith) ∙ e), ap (each f) (drop_all (length ys) ys (omega arith)), length-map (take (length ys) ys) f ∙ ap length (take_all (length ys) ys (omega arith)))
