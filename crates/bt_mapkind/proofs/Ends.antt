-- A queue's or a stack's items as what stands at each end and what lies between, and an exchange there.
use Rattle.std.proofs.Common.{◌≡◌, ℕ, ◌+◌, ◌≤◌, Bool, true, false, List, [], ◌∷◌, ◌++◌, length, append-nil, Option, Some, None, is_some, nat_le, ◌&&◌, sym, refl, ap, ◌∙◌, arith}
use Rattle.std.proofs.lemmas.Bool.Decides.{nat_tests}
use Rattle.std.specs.Option.{option_to_list}
use Rattle.bt_mapkind.specs.declared.attr.MapAttr.{MapAttr}
use Rattle.bt_mapkind.specs.declared.exchange.Back.{Back}
use Rattle.bt_mapkind.specs.declared.exchange.Back.TheVariants.{Ends}
use Rattle.bt_mapkind.specs.Contents.{Contents, Items}
use Rattle.bt_mapkind.specs.Exchange.{exchanged, items_fit, item_fits, newest, rear_of, one_if}

-- a list with the items at the ends that are taken
pub record Parts (xs : List (List ℕ)) (front rear : Bool) : Type 0 where
  pub first : Option (List ℕ)
  pub mid : List (List ℕ)
  pub last : Option (List ℕ)
  pub is : xs ≡ option_to_list first ++ (mid ++ option_to_list last)
  pub front_is : is_some first ≡ front
  pub rear_is : is_some last ≡ rear

newest_parts : (x : List ℕ) (xs : List (List ℕ)) → (x ∷ xs ≡ (newest x xs).1 ++ option_to_list (newest x xs).0) × (is_some (newest x xs).0 ≡ true)
newest_parts x [] = (refl, refl)
newest_parts x (y ∷ ys) = let h = newest_parts y ys in (ap (λ l. x ∷ l) h.0, h.1)

pub parts : (front rear : Bool) (xs : List (List ℕ)) → one_if front + one_if rear ≤ length xs → Parts xs front rear
parts false false xs h = record { first = None; mid = xs; last = None; is = sym (append-nil xs); front_is = refl; rear_is = refl }
parts true false [] h = absurd (omega arith)
parts true false (x ∷ xs) h = record { first = Some x; mid = xs; last = None; is = ap (λ l. x ∷ l) (sym (append-nil xs)); front_is = refl; rear_is = refl }
parts false true [] h = absurd (omega arith)
parts false true (x ∷ xs) h = let n = newest_parts x xs in record { first = None; mid = (newest x xs).1; last = (newest x xs).0; is = n.0; front_is = refl; rear_is = n.1 }
parts true true [] h = absurd (omega arith)
parts true true (x ∷ []) h = absurd (omega arith)
parts true true (x ∷ y ∷ ys) h = let n = newest_parts y ys in record { first = Some x; mid = (newest y ys).1; last = (newest y ys).0; is = ap (λ l. x ∷ l) n.0; front_is = refl; rear_is = n.1 }

newest_of : (x y : List ℕ) (m : List (List ℕ)) → newest x (m ++ y ∷ []) ≡ (Some y, x ∷ m)
newest_of x y [] = refl
newest_of x y (z ∷ m) = ap (λ (r : Option (List ℕ) × List (List ℕ)). (r.0, x ∷ r.1)) (newest_of z y m)

rear_of_last : (m : List (List ℕ)) (y : List ℕ) → rear_of true (m ++ y ∷ []) ≡ (Some y, m)
rear_of_last [] y = refl
rear_of_last (x ∷ m) y = newest_of x y m

-- an exchange at a list with known ends
pub exchanged_ends : (a : Option (List ℕ)) (mid : List (List ℕ)) (b p q : Option (List ℕ))
    → exchanged (Items (option_to_list a ++ (mid ++ option_to_list b))) (Ends (is_some a) (is_some b) p q) ≡ (Items (option_to_list p ++ (mid ++ option_to_list q)), Ends (is_some p) (is_some q) a b)
exchanged_ends None mid None p q = ap (λ l. (Items (option_to_list p ++ (l ++ option_to_list q)), Ends (is_some p) (is_some q) None None)) (append-nil mid)
exchanged_ends (Some x) mid None p q = ap (λ l. (Items (option_to_list p ++ (l ++ option_to_list q)), Ends (is_some p) (is_some q) (Some x) None)) (append-nil mid)
exchanged_ends None mid (Some y) p q =
    ap (λ (r : Option (List ℕ) × List (List ℕ)). (Items (option_to_list p ++ (r.1 ++ option_to_list q)), Ends (is_some p) (is_some q) None r.0)) (rear_of_last mid y)
exchanged_ends (Some x) mid (Some y) p q =
    ap (λ (r : Option (List ℕ) × List (List ℕ)). (Items (option_to_list p ++ (r.1 ++ option_to_list q)), Ends (is_some p) (is_some q) (Some x) r.0)) (rear_of_last mid y)

-- what an exchange that fits says
pub record FitsEnds (a : MapAttr) (xs : List (List ℕ)) (front rear : Bool) (p q : Option (List ℕ)) : Type 0 where
  pub there : one_if front + one_if rear ≤ length xs
  pub front_size : item_fits a p ≡ true
  pub rear_size : item_fits a q ≡ true
  pub room : length xs + (one_if (is_some p) + one_if (is_some q)) ≤ a.max_entries + (one_if front + one_if rear)

le_of : (m n : ℕ) → nat_le m n ≡ true → m ≤ n
le_of m n e = grind (arith, nat_tests)

true_of_le : (m n : ℕ) → m ≤ n → nat_le m n ≡ true
true_of_le m n e = grind (arith, nat_tests)

four : (p q r s : Bool) → p && q && r && s ≡ true → (p ≡ true) × (q ≡ true) × (r ≡ true) × (s ≡ true)
four true true true true e = (refl, refl, refl, refl)
four true true true false e = cc
four true true false s e = cc
four true false r s e = cc
four false q r s e = cc

all_four : (p q r s : Bool) → p ≡ true → q ≡ true → r ≡ true → s ≡ true → p && q && r && s ≡ true
all_four p q r s a b c d = rw (a, b, c, d) refl

pub fits_ends_of : (a : MapAttr) (xs : List (List ℕ)) (front rear : Bool) (p q : Option (List ℕ)) → items_fit a xs (Ends front rear p q) ≡ true → FitsEnds a xs front rear p q
fits_ends_of a xs front rear p q e =
    let h = four _ _ _ _ e in
    record { there = le_of _ _ h.0; front_size = h.1; rear_size = h.2; room = le_of _ _ h.3 }

pub fits_of_ends : (a : MapAttr) (xs : List (List ℕ)) (front rear : Bool) (p q : Option (List ℕ)) → FitsEnds a xs front rear p q → items_fit a xs (Ends front rear p q) ≡ true
fits_of_ends a xs front rear p q f = all_four _ _ _ _ (true_of_le _ _ f.there) f.front_size f.rear_size (true_of_le _ _ f.room)

pub twice_items : (xs : List (List ℕ)) (front rear : Bool) (p q : Option (List ℕ)) → Parts xs front rear
    → exchanged (exchanged (Items xs) (Ends front rear p q)).0 (exchanged (Items xs) (Ends front rear p q)).1 ≡ (Items xs, Ends front rear p q)
twice_items xs front rear p q s =
    rw (s.is, ← s.front_is, ← s.rear_is)
    (ap (λ (r : Contents × Back). exchanged r.0 r.1) (exchanged_ends s.first s.mid s.last p q) ∙ exchanged_ends p s.mid q s.first s.last)
