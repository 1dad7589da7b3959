-- The list of an order's rows after a row came or went.
use Rattle.std.proofs.Common.{◌≡◌, ℕ, ◌+◌, ◌-◌, ◌<◌, ◌≤◌, List, [], ◌∷◌, ◌++◌, length, get_or, take, drop, map, refl, sym, ap, ap₂, ◌∙◌, arith, ◌⊎◌, inl, inr, take-append-drop}
use Rattle.std.specs.List.{range_with_len, insert, remove}
use Rattle.std.proofs.lemmas.Bool.{cases_lt}
use Rattle.std.proofs.lemmas.List.{ext_get_or, length-take-le}
use Rattle.std.proofs.lemmas.List.Edits.{length-insert, get_or-insert_below, get_or-insert_at, get_or-insert_above}
use Rattle.std.proofs.lemmas.List.FromFn.{length-map-range_with_len, get_or-map-range_with_len}
use Rattle.std.proofs.lemmas.List.{with_items_is}
use Rattle.std.specs.declared.vec.Vec.{Vec}
use Rattle.std.specs.Vec.{with_items}
use Rattle.map_order.specs.Blocks.{first_rows, Pushes, MovesUp}
use Rattle.map_order.specs.Order.{Ordered, IsOrder}

-- so many first rows
abbrev pub rows_of : (ℕ → ℕ) → ℕ → List ℕ
rows_of f n = map f (range_with_len 0 n)

pub length-rows_of : (f : ℕ → ℕ) (n : ℕ) → length (rows_of f n) ≡ n
length-rows_of f n = length-map-range_with_len f 0 n

pub get_or-rows_of : (f : ℕ → ℕ) (n k : ℕ) → k < n → get_or (rows_of f n) k 0 ≡ f k
get_or-rows_of f n k lt = get_or-map-range_with_len f 0 n k k 0 lt (omega arith)

-- a row that is put first in its block and moved up to its position is inserted there
pub inserted : (old mid new : ℕ → ℕ) (n place base end row last : ℕ) → Pushes old mid base end row last → MovesUp mid new base place → base ≤ place → place ≤ n → n < end → rows_of new (n + 1) ≡ insert (rows_of old n) place row
inserted old mid new n place base end row last p m order within room =
    ext_get_or 0 (rows_of new (n + 1)) (insert (rows_of old n) place row)
    (length-rows_of new (n + 1) ∙ sym (length-insert (rows_of old n) place row inside ∙ ap (λ k. k + 1) (length-rows_of old n)))
    (λ k lt. let under : k < n + 1 = omega (arith, length-rows_of new (n + 1)) in get_or-rows_of new (n + 1) k under ∙ each k under (cases_lt k place) (cases_lt place k))
  where
    inside : place ≤ length (rows_of old n)
    inside = omega (arith, length-rows_of old n)

    lower : (k : ℕ) → k < place → (k < base) ⊎ (base ≤ k) → new k ≡ old k
    lower k lt (inl less) = m.below k less ∙ p.below k less
    lower k lt (inr le) = m.between k le lt ∙ p.further k le (omega arith)

    upper : (j k : ℕ) → j + 1 ≡ k → place < k → k < n + 1 → new k ≡ get_or (insert (rows_of old n) place row) k 0
    upper j k is lt under =
        m.above k lt
        ∙ sym (ap mid is)
        ∙ p.further j (omega arith) (omega arith)
        ∙ sym (get_or-rows_of old n j (omega arith))
        ∙ sym (get_or-insert_above (rows_of old n) place row 0 j (omega arith) inside)
        ∙ ap (λ i. get_or (insert (rows_of old n) place row) i 0) is

    each : (k : ℕ) → k < n + 1 → (k < place) ⊎ (place ≤ k) → (place < k) ⊎ (k ≤ place) → new k ≡ get_or (insert (rows_of old n) place row) k 0
    each k under (inl lt) either = lower k lt (cases_lt k base) ∙ sym (get_or-rows_of old n k (omega arith)) ∙ sym (get_or-insert_below (rows_of old n) place row 0 k lt inside)
    each k under (inr le) (inl lt) = upper (k - 1) k (omega arith) lt under
    each k under (inr le) (inr same) =
        let is : k ≡ place = omega arith in
        ap new is ∙ m.here ∙ p.here ∙ sym (get_or-insert_at (rows_of old n) place row 0 inside) ∙ ap (λ i. get_or (insert (rows_of old n) place row) i 0) (sym is)

remove_at : (a ys : List ℕ) (x : ℕ) → remove (a ++ x ∷ ys) (length a) ≡ a ++ ys
remove_at [] ys x = refl
remove_at (y ∷ a) ys x = ap (λ (l : List ℕ). y ∷ l) (remove_at a ys x)

pub remove-insert : (xs : List ℕ) (place row : ℕ) → place ≤ length xs → remove (insert xs place row) place ≡ xs
remove-insert xs place row within =
    ap (remove (insert xs place row)) (sym (length-take-le place xs within)) ∙ remove_at (take place xs) (drop place xs) row ∙ take-append-drop place xs

-- a row that is moved down to be first in its block and taken from there is taken out
pub taken : (old mid new : ℕ → ℕ) (n place base end row last : ℕ) → Pushes new mid base end row last → MovesUp mid old base place → base ≤ place → place ≤ n → n < end
    → (rows_of new n ≡ remove (rows_of old (n + 1)) place) × (row ≡ get_or (rows_of old (n + 1)) place 0)
taken old mid new n place base end row last p m order within room =
    let whole : rows_of old (n + 1) ≡ insert (rows_of new n) place row = inserted new mid old n place base end row last p m order within room in
    let inside : place ≤ length (rows_of new n) = omega (arith, length-rows_of new n) in
    (sym (ap (λ (l : List ℕ). remove l place) whole ∙ remove-insert (rows_of new n) place row inside), sym (ap (λ (l : List ℕ). get_or l place 0) whole ∙ get_or-insert_at (rows_of new n) place row 0 inside))

-- ---- an order whose blocks were written
module _ {Z : Type 0} (starts rows : Vec ℕ Z) (new_starts new_rows old_starts old_rows : List ℕ) (starts_long : length new_starts ≡ length old_starts) (rows_long : length new_rows ≡ length old_rows) (starts_is : old_starts ≡ starts.items) (rows_is : old_rows ≡ rows.items) where
  starts_now : (with_items starts new_starts).items ≡ new_starts
  starts_now = with_items_is starts new_starts (starts_long ∙ ap length starts_is ∙ sym starts.ok.0)

  rows_now : (with_items rows new_rows).items ≡ new_rows
  rows_now = with_items_is rows new_rows (rows_long ∙ ap length rows_is ∙ sym rows.ok.0)

  pub written : (capacity len n : ℕ) → IsOrder capacity len starts.items rows.items → n ≤ capacity → IsOrder capacity n (with_items starts new_starts).items (with_items rows new_rows).items
  written capacity len n o within =
      let s : length (with_items starts new_starts).items ≡ length starts.items = ap length starts_now ∙ starts_long ∙ ap length starts_is in
      let r : length (with_items rows new_rows).items ≡ length rows.items = ap length rows_now ∙ rows_long ∙ ap length rows_is in
      record { blocks = omega (arith, o.blocks, s, r); within = within; room = omega (arith, o.room, s); few = o.few }

  pub seen_inserted : (capacity len place row : ℕ) (order : Ordered) → record { rows = first_rows starts.items rows.items len; capacity = capacity } ≡ order
      → first_rows new_starts new_rows (len + 1) ≡ insert (first_rows old_starts old_rows len) place row
      → record { rows = first_rows (with_items starts new_starts).items (with_items rows new_rows).items (len + 1); capacity = capacity } ≡ record order { rows = insert order.rows place row }
  seen_inserted capacity len place row order view is =
      ap₂ (λ l k. record { rows = l; capacity = k })
      (ap₂ (λ s r. first_rows s r (len + 1)) starts_now rows_now ∙ is ∙ ap₂ (λ s r. insert (first_rows s r len) place row) starts_is rows_is ∙ ap (λ (o : Ordered). insert o.rows place row) view)
      (ap (λ (o : Ordered). o.capacity) view)

  pub seen_removed : (capacity len left place : ℕ) (order : Ordered) → record { rows = first_rows starts.items rows.items len; capacity = capacity } ≡ order → left + 1 ≡ len
      → first_rows new_starts new_rows left ≡ remove (first_rows old_starts old_rows (left + 1)) place
      → record { rows = first_rows (with_items starts new_starts).items (with_items rows new_rows).items left; capacity = capacity } ≡ record order { rows = remove order.rows place }
  seen_removed capacity len left place order view count is =
      ap₂ (λ l k. record { rows = l; capacity = k })
      (ap₂ (λ s r. first_rows s r left) starts_now rows_now ∙ is ∙ ap₂ (λ s r. remove (first_rows s r (left + 1)) place) starts_is rows_is ∙ ap (λ n. remove (first_rows starts.items rows.items n) place) count
      ∙ ap (λ (o : Ordered). remove o.rows place) view)
      (ap (λ (o : Ordered). o.capacity) view)

  pub row_removed : (capacity len left place row : ℕ) (order : Ordered) → record { rows = first_rows starts.items rows.items len; capacity = capacity } ≡ order → left + 1 ≡ len → row ≡ get_or (first_rows old_starts old_rows (left + 1)) place 0 → row ≡ get_or order.rows place 0
  row_removed capacity len left place row order view count is =
      is ∙ ap₂ (λ s r. get_or (first_rows s r (left + 1)) place 0) starts_is rows_is ∙ ap (λ n. get_or (first_rows starts.items rows.items n) place 0) count ∙ ap (λ (o : Ordered). get_or o.rows place 0) view
