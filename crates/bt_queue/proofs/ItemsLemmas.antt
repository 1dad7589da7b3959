-- The oldest and the newest of a list of items, by the table's definitions.
use Rattle.std.proofs.Common.{◌≡◌, ℕ, ◌+◌, ◌<◌, ◌≤◌, Bool, true, false, List, [], ◌∷◌, ◌++◌, length, get_or, Option, Some, None, is_some, Ok, refl, ap, ◌∙◌, arith}
use Rattle.std.specs.Option.{option_to_list}
use Rattle.bt_mapkind.specs.declared.attr.MapAttr.{MapAttr}
use Rattle.bt_mapkind.specs.declared.exchange.Back.{Back}
use Rattle.bt_mapkind.specs.declared.exchange.Back.TheVariants.{Ends}
use Rattle.bt_mapkind.specs.declared.request.MapOp.TheVariants.{Pop}
use Rattle.bt_mapkind.specs.declared.request.MapReply.TheVariants.{Value}
use Rattle.bt_mapkind.specs.declared.request.Query.TheVariants.{Peek}
use Rattle.bt_mapkind.specs.Attributes.{is_stack}
use Rattle.bt_mapkind.specs.Contents.{Items}
use Rattle.bt_mapkind.specs.Exchange.{newest, front_of, rear_of, one_if}
use Rattle.bt_mapkind.specs.Step.{goes, items_step, newest_taken}
use Rattle.bt_mapkind.specs.Read.{items_read, item_peeked}
use Rattle.bt_queue.specs.Window.{Kept}

newest_of : (x y : List ℕ) (m : List (List ℕ)) → newest x (m ++ y ∷ []) ≡ (Some y, x ∷ m)
newest_of x y [] = refl
newest_of x y (z ∷ m) = ap (λ (r : Option (List ℕ) × List (List ℕ)). (r.0, x ∷ r.1)) (newest_of z y m)

pub rear_of_last : (m : List (List ℕ)) (y : List ℕ) → rear_of true (m ++ y ∷ []) ≡ (Some y, m)
rear_of_last [] y = refl
rear_of_last (x ∷ m) y = newest_of x y m

newest_at : (x : List ℕ) (xs : List (List ℕ)) → (newest x xs).0 ≡ Some (get_or (x ∷ xs) (length xs) [])
newest_at x [] = refl
newest_at x (y ∷ ys) = newest_at y ys

-- the newest item is the last
pub newest_is_last : (xs : List (List ℕ)) (place : ℕ) → length xs ≡ place + 1 → (rear_of true xs).0 ≡ Some (get_or xs place [])
newest_is_last [] place long = absurd (omega arith)
newest_is_last (x ∷ xs) place long = let at : length xs ≡ place = omega arith in newest_at x xs ∙ ap (λ i. Some (get_or (x ∷ xs) i [])) at

-- ---- how many are left
pub length-option : (o : Option (List ℕ)) → length (option_to_list o) ≡ one_if (is_some o)
length-option None = refl
length-option (Some x) = refl

length-newest : (x : List ℕ) (xs : List (List ℕ)) → length (newest x xs).1 ≡ length xs
length-newest x [] = refl
length-newest x (y ∷ ys) = let h : length (newest y ys).1 ≡ length ys = length-newest y ys in omega arith

pub front_left : (take : Bool) (xs : List (List ℕ)) → one_if take ≤ length xs → length (front_of take xs).1 + one_if take ≡ length xs
front_left false xs h = omega arith
front_left true [] h = absurd (omega arith)
front_left true (x ∷ xs) h = omega arith

pub rear_left : (take : Bool) (xs : List (List ℕ)) → one_if take ≤ length xs → length (rear_of take xs).1 + one_if take ≡ length xs
rear_left false xs h = omega arith
rear_left true [] h = absurd (omega arith)
rear_left true (x ∷ xs) h = let n : length (newest x xs).1 ≡ length xs = length-newest x xs in omega arith

-- ---- the newest item taken
pub newest_of_ring : (old new : Kept) (y : List ℕ) → old ≡ record { items = new.items ++ y ∷ []; capacity = new.capacity; size = new.size } → rear_of true old.items ≡ (Some y, new.items)
newest_of_ring old new y is = ap (λ (s : Kept). rear_of true s.items) is ∙ rear_of_last new.items y

pub rest_of_ring : (old new : Kept) (y : List ℕ) → old ≡ record { items = new.items ++ y ∷ []; capacity = new.capacity; size = new.size }
    → new ≡ record { items = (rear_of true old.items).1; capacity = old.capacity; size = old.size }
rest_of_ring old new y is = rw is (rw (rear_of_last new.items y) refl)

-- a stack's pop
pub pops_newest : (a : MapAttr) (old new : Kept) (y copy : List ℕ) (back : Back) → is_stack a.kind ≡ true → old ≡ record { items = new.items ++ y ∷ []; capacity = new.capacity; size = new.size } → copy ≡ y → back ≡ Ends false false None (Some y)
    → items_step a old.items Pop ≡ goes (Items new.items) (Value copy) back
pops_newest a old new y copy back stack is same b =
    rw (stack, same, b)
    (ap (λ (r : Option (List ℕ) × List (List ℕ)). newest_taken r.0 r.1) (newest_of_ring old new y is))

-- ---- a look at the next item
pub peeks_newest : (a : MapAttr) (xs : List (List ℕ)) (place : ℕ) (value : List ℕ) → is_stack a.kind ≡ true → length xs ≡ place + 1 → value ≡ get_or xs place []
    → items_read a xs Peek ≡ Ok (Value value)
peeks_newest a xs place value stack long is = rw (stack, is) (ap item_peeked (newest_is_last xs place long))

pub peeks_oldest : (a : MapAttr) (xs : List (List ℕ)) (place : ℕ) (value : List ℕ) → is_stack a.kind ≡ false → 0 < length xs → place ≡ 0 → value ≡ get_or xs place []
    → items_read a xs Peek ≡ Ok (Value value)
peeks_oldest a [] place value queue some first is = absurd (omega arith)
peeks_oldest a (x ∷ xs) place value queue some first is = rw (queue, is, first) refl
