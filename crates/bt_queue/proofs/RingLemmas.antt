-- What a ring's calls leave of its items, from what they do to its rows.
use Rattle.std.proofs.Common.{◌≡◌, ℕ, ◌+◌, ◌-◌, ◌%◌, ◌<◌, List, [], ◌∷◌, ◌++◌, length, get_or, set, refl, ap, ap₂, sym, ◌∙◌, arith, length-set}
use Rattle.bt_queue.specs.Window.{Kept, IsRing, window}
use Rattle.bt_queue.proofs.WindowLemmas.{length-window, get_or-window, window_after_push, window_after_push_front, window_before_pop, window_before_pop_rear}

abbrev pub seen : ℕ → ℕ → ℕ → List (List ℕ) → Kept
seen k n size xs = record { items = window k n xs; capacity = length xs; size = size }

pub length-items : (s : Kept) (k n size : ℕ) (xs : List (List ℕ)) → IsRing k n size xs → seen k n size xs ≡ s → length s.items ≡ n
length-items s k n size xs r view =
    ap (λ (t : Kept). length t.items) (sym view) ∙ length-window (length xs) k n xs r.head_within r.len_within refl

pub item_at : (s : Kept) (k n size : ℕ) (xs : List (List ℕ)) (i place : ℕ) → IsRing k n size xs → seen k n size xs ≡ s → i < length s.items → place ≡ (k + i) % length xs
    → get_or xs place [] ≡ get_or s.items i []
item_at s k n size xs i place r view there is =
    let long : length s.items ≡ n = length-items s k n size xs r view in
    ap (λ j. get_or xs j []) is
    ∙ sym (get_or-window (length xs) k n xs r.head_within r.len_within refl i [] (omega arith))
    ∙ ap (λ (t : Kept). get_or t.items i []) view

pub pushed_rear : (s : Kept) (k n size : ℕ) (xs ys : List (List ℕ)) (place : ℕ) (x : List ℕ) → IsRing k n size xs → seen k n size xs ≡ s → length s.items < s.capacity → place ≡ (k + n) % length xs → ys ≡ set xs place x
    → seen k (n + 1) size ys ≡ record { items = s.items ++ x ∷ []; capacity = s.capacity; size = s.size }
pushed_rear s k n size xs ys place x r view room is after =
    let long : length s.items ≡ n = length-items s k n size xs r view in
    let capacity : length xs ≡ s.capacity = ap (λ (t : Kept). t.capacity) view in
    let rows : ys ≡ set xs ((k + n) % length xs) x = after ∙ ap (λ j. set xs j x) is in
    ap₂ (λ (l : List (List ℕ)) (c : ℕ). record { items = l; capacity = c; size = size })
    (ap (window k (n + 1)) rows ∙ window_after_push (length xs) k n xs r.head_within r.len_within refl x (omega arith))
    (ap length rows ∙ length-set xs ((k + n) % length xs) x)
    ∙ ap (λ (t : Kept). record { items = t.items ++ x ∷ []; capacity = t.capacity; size = t.size }) view

pub pushed_front : (s : Kept) (k n size : ℕ) (xs ys : List (List ℕ)) (place : ℕ) (x : List ℕ) → IsRing k n size xs → seen k n size xs ≡ s → length s.items < s.capacity → place ≡ (k + (length xs - 1)) % length xs → ys ≡ set xs place x
    → seen place (n + 1) size ys ≡ record { items = x ∷ s.items; capacity = s.capacity; size = s.size }
pushed_front s k n size xs ys place x r view room is after =
    let long : length s.items ≡ n = length-items s k n size xs r view in
    let capacity : length xs ≡ s.capacity = ap (λ (t : Kept). t.capacity) view in
    let slot : ℕ = (k + (length xs - 1)) % length xs in
    let rows : ys ≡ set xs slot x = after ∙ ap (λ j. set xs j x) is in
    ap₂ (λ (l : List (List ℕ)) (c : ℕ). record { items = l; capacity = c; size = size })
    (ap₂ (λ j (l : List (List ℕ)). window j (n + 1) l) is rows ∙ window_after_push_front (length xs) k n xs r.head_within r.len_within refl x (omega arith))
    (ap length rows ∙ length-set xs slot x)
    ∙ ap (λ (t : Kept). record { items = x ∷ t.items; capacity = t.capacity; size = t.size }) view

pub popped_front : (s : Kept) (k n size : ℕ) (xs : List (List ℕ)) (next : ℕ) (x : List ℕ) → IsRing k n size xs → seen k n size xs ≡ s → 0 < length s.items → x ≡ get_or xs k [] → next ≡ (k + 1) % length xs
    → s ≡ record { items = x ∷ window next (n - 1) xs; capacity = length xs; size = size }
popped_front s k n size xs next x r view some is after =
    let long : length s.items ≡ n = length-items s k n size xs r view in
    sym view ∙ ap (λ (l : List (List ℕ)). record { items = l; capacity = length xs; size = size })
    (window_before_pop (length xs) k n xs r.head_within r.len_within refl [] (omega arith)
    ∙ ap (λ y. y ∷ window ((k + 1) % length xs) (n - 1) xs) (sym is)
    ∙ ap (λ j. x ∷ window j (n - 1) xs) (sym after))

pub popped_rear : (s : Kept) (k n size : ℕ) (xs : List (List ℕ)) (place : ℕ) (x : List ℕ) → IsRing k n size xs → seen k n size xs ≡ s → 0 < length s.items → x ≡ get_or xs place [] → place ≡ (k + (n - 1)) % length xs
    → s ≡ record { items = window k (n - 1) xs ++ x ∷ []; capacity = length xs; size = size }
popped_rear s k n size xs place x r view some is at =
    let long : length s.items ≡ n = length-items s k n size xs r view in
    sym view ∙ ap (λ (l : List (List ℕ)). record { items = l; capacity = length xs; size = size })
    (window_before_pop_rear (length xs) k n xs r.head_within r.len_within refl [] (omega arith)
    ∙ ap (λ y. window k (n - 1) xs ++ y ∷ []) (sym (is ∙ ap (λ j. get_or xs j []) at)))
