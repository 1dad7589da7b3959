-- What holds of each element, of each pair, and of a list taken apart.
use Rattle.std.proofs.Common.{◌≡◌, Bool, true, false, cond, List, [], ◌∷◌, ◌++◌, map as each, refl, reverse, sym, subst}
use Rattle.std.proofs.lemmas.List.{reverse-append}
use Rattle.std.specs.Prelude.{filter}
use Rattle.journal_model.specs.Well.{Each, EachPair}

pub Each-map : {X : Type 0} (P Q : X → Type 0) (xs : List X) → ((x : X) → P x → Q x) → Each P xs → Each Q xs
Each-map P Q [] f h = tt
Each-map P Q (x ∷ xs) f h = (f x h.0, Each-map P Q xs f h.1)

pub Each-append : {X : Type 0} (P : X → Type 0) (xs ys : List X) → Each P xs → Each P ys → Each P (xs ++ ys)
Each-append P [] ys h k = k
Each-append P (x ∷ xs) ys h k = (h.0, Each-append P xs ys h.1 k)

pub Each-rest : {X : Type 0} (P : X → Type 0) (xs ys : List X) → Each P (xs ++ ys) → Each P ys
Each-rest P [] ys h = h
Each-rest P (x ∷ xs) ys h = Each-rest P xs ys h.1

pub Each-front : {X : Type 0} (P : X → Type 0) (xs ys : List X) → Each P (xs ++ ys) → Each P xs
Each-front P [] ys h = tt
Each-front P (x ∷ xs) ys h = (h.0, Each-front P xs ys h.1)

pub Each-reverse : {X : Type 0} (P : X → Type 0) (xs : List X) → Each P xs → Each P (reverse xs)
Each-reverse P [] h = tt
Each-reverse P (x ∷ xs) h = subst (Each P) (sym (reverse-append (x ∷ []) xs)) (Each-append P (reverse xs) (x ∷ []) (Each-reverse P xs h.1) (h.0, tt))

pub Each-filter : {X : Type 0} (P : X → Type 0) (test : X → Bool) (xs : List X) → Each P xs → Each P (filter test xs)
Each-filter P test [] h = tt
Each-filter {X} P test (x ∷ xs) h = kept (test x) (Each-filter P test xs h.1)
  where
    kept : (b : Bool) → Each P (filter test xs) → Each P (cond b (x ∷ filter test xs) (filter test xs))
    kept true rest = (h.0, rest)
    kept false rest = rest

-- what passes a test, and keeps what held
pub Each-passing : {X : Type 0} (P Q : X → Type 0) (test : X → Bool) (xs : List X) → ((x : X) → test x ≡ true → P x → Q x) → Each P xs → Each Q (filter test xs)
Each-passing P Q test [] f h = tt
Each-passing P Q test (x ∷ xs) f h = kept (test x) refl (Each-passing P Q test xs f h.1)
  where
    kept : (b : Bool) → test x ≡ b → Each Q (filter test xs) → Each Q (cond b (x ∷ filter test xs) (filter test xs))
    kept true e rest = (f x e h.0, rest)
    kept false e rest = rest

pub EachPair-rest : {X : Type 0} (R : X → X → Type 0) (xs ys : List X) → EachPair R (xs ++ ys) → EachPair R ys
EachPair-rest R [] ys h = h
EachPair-rest R (x ∷ xs) ys h = EachPair-rest R xs ys h.1

-- one more at the end
pub EachPair-push : {X : Type 0} (R : X → X → Type 0) (xs : List X) (y : X) → EachPair R xs → Each (λ x. R x y) xs → EachPair R (xs ++ y ∷ [])
EachPair-push R [] y h k = (tt, tt)
EachPair-push R (x ∷ xs) y h k = (Each-append (R x) xs (y ∷ []) h.0 (k.0, tt), EachPair-push R xs y h.1 k.1)

pub EachPair-filter : {X : Type 0} (R : X → X → Type 0) (test : X → Bool) (xs : List X) → EachPair R xs → EachPair R (filter test xs)
EachPair-filter R test [] h = tt
EachPair-filter {X} R test (x ∷ xs) h = kept (test x) (EachPair-filter R test xs h.1)
  where
    kept : (b : Bool) → EachPair R (filter test xs) → EachPair R (cond b (x ∷ filter test xs) (filter test xs))
    kept true rest = (Each-filter (R x) test xs h.0, rest)
    kept false rest = rest

pub EachPair-front : {X : Type 0} (R : X → X → Type 0) (xs ys : List X) → EachPair R (xs ++ ys) → EachPair R xs
EachPair-front R [] ys h = tt
EachPair-front R (x ∷ xs) ys h = (Each-front (R x) xs ys h.0, EachPair-front R xs ys h.1)

pub EachPair-reverse : {X : Type 0} (R : X → X → Type 0) (xs : List X) → EachPair R xs → EachPair (λ x y. R y x) (reverse xs)
EachPair-reverse R [] h = tt
EachPair-reverse R (x ∷ xs) h =
    subst (EachPair (λ x y. R y x)) (sym (reverse-append (x ∷ []) xs)) (EachPair-push (λ x y. R y x) (reverse xs) x (EachPair-reverse R xs h.1) (Each-reverse (R x) xs h.0))

-- two facts of each
pub Each-both : {X : Type 0} (P Q R : X → Type 0) (xs : List X) → ((x : X) → P x → Q x → R x) → Each P xs → Each Q xs → Each R xs
Each-both P Q R [] f h k = tt
Each-both P Q R (x ∷ xs) f h k = (f x h.0 k.0, Each-both P Q R xs f h.1 k.1)

-- ---- what a function makes of each
pub Each-each : {X Y : Type 0} (P : Y → Type 0) (f : X → Y) (xs : List X) → Each (λ x. P (f x)) xs → Each P (each f xs)
Each-each P f [] h = tt
Each-each P f (x ∷ xs) h = (h.0, Each-each P f xs h.1)

pub EachPair-each : {X Y : Type 0} (R : Y → Y → Type 0) (f : X → Y) (xs : List X) → EachPair (λ x y. R (f x) (f y)) xs → EachPair R (each f xs)
EachPair-each R f [] h = tt
EachPair-each R f (x ∷ xs) h = (Each-each (R (f x)) f xs h.0, EachPair-each R f xs h.1)
