-- The order of a table's rows: the numbers in it, and one of them moved.
use Rattle.std.proofs.Common.{◌≡◌, ℕ, ◌+◌, ◌<◌, ◌≤◌, List, [], ◌∷◌, ◌++◌, length, get_or, set, drop, refl, sym, ap, ap₂, ◌∙◌, arith}
use Rattle.std.specs.List.{insert, remove}
use Rattle.std.proofs.lemmas.Grind.{drop-set_at}
use Rattle.std.proofs.lemmas.List.{get_or_at, get_or_append_left, drop_more}
use Rattle.std.proofs.lemmas.List.Edits.{length-insert, length-remove, insert-append_left, remove-append_left}
use Rattle.map_table.specs.Table.{moved, all_rows}

-- ---- a number moved
remove_at : (a ys : List ℕ) (x : ℕ) → remove (a ++ x ∷ ys) (length a) ≡ a ++ ys
remove_at [] ys x = refl
remove_at (y ∷ a) ys x = ap (λ (l : List ℕ). y ∷ l) (remove_at a ys x)

insert_at : (a ys : List ℕ) (x : ℕ) → insert (a ++ ys) (length a) x ≡ a ++ x ∷ ys
insert_at [] ys x = refl
insert_at (y ∷ a) ys x = ap (λ (l : List ℕ). y ∷ l) (insert_at a ys x)

pub length-moved : (xs : List ℕ) (from to : ℕ) → from < length xs → to < length xs → length (moved xs from to) ≡ length xs
length-moved xs from to f t =
    let less : length (remove xs from) + 1 ≡ length xs = length-remove xs from f in
    length-insert (remove xs from) to (get_or xs from 0) (omega arith) ∙ less

-- the first row that holds no entry comes at a place among the entries' rows
pub put_moved : (rows free : List ℕ) (place row : ℕ) → place ≤ length rows → length rows < length free → row ≡ get_or free (length rows) 0 → all_rows (insert rows place row) free ≡ moved (all_rows rows free) (length rows) place
put_moved rows free place row within some at =
    let n : ℕ = length rows in
    let rest : List ℕ = drop (n + 1) free in
    let begins : drop n free ≡ row ∷ rest = drop_more free n 0 some ∙ ap (λ x. x ∷ rest) (sym at) in
    ap (λ k. insert rows place row ++ drop k free) (length-insert rows place row within)
    ∙ sym (insert-append_left rows rest place row within)
    ∙ ap₂ (λ (l : List ℕ) x. insert l place x) (sym (remove_at rows rest row)) (sym (get_or_at rows row rest 0 n refl))
    ∙ ap (λ (l : List ℕ). moved (rows ++ l) n place) (sym begins)

-- the row of an entry that goes is the first of those that hold none
pub take_moved : (rows free : List ℕ) (place row left : ℕ) → left + 1 ≡ length rows → place < length rows → left < length free → row ≡ get_or rows place 0 → all_rows (remove rows place) (set free left row) ≡ moved (all_rows rows free) place left
take_moved rows free place row left count within some at =
    let rest : List ℕ = drop (length rows) free in
    let less : length (remove rows place) ≡ left = omega (arith, length-remove rows place within) in
    let same : left + 1 ≡ length rows = count in
    ap (λ k. remove rows place ++ drop k (set free left row)) less
    ∙ ap (λ (l : List ℕ). remove rows place ++ l) (drop-set_at free left left row refl some ∙ ap (λ k. row ∷ drop k free) same)
    ∙ sym (insert_at (remove rows place) rest row)
    ∙ ap (λ k. insert (remove rows place ++ rest) k row) less
    ∙ ap₂ (λ (l : List ℕ) x. insert l left x) (sym (remove-append_left rows rest place within)) (at ∙ sym (get_or_append_left rows rest 0 place within))
