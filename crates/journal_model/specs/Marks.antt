-- Marks: names of moments, in the order in which they were made; which are left after an undo, and after moments joined the base.
use Rattle.std.specs.Prelude.{ℕ, ◌-◌, Bool, not, List, [], ◌∷◌, filter, map as each, nat_eq, nat_le, nat_lt, if◌then◌else◌, Option, Some, None}
use Rattle.std.specs.List.{list_any}
use Rattle.std.specs.Cmp.Lexicographic.{pointwise}

-- a mark: its name, and the number of moments that were in force when it was made
pub record Mark : Type 0 where
  pub name : List ℕ
  pub moments : ℕ

abbrev pub has_name : List ℕ → Mark → Bool
has_name name mark = pointwise nat_eq mark.name name

-- the number of moments of the mark of this name
abbrev pub moments_at : List ℕ → List Mark → Option ℕ
moments_at name [] = None
moments_at name (mark ∷ marks) = if has_name name mark then Some mark.moments else moments_at name marks

-- the marks that are left after an undo back to a number of moments: those of a greater number are gone
abbrev pub marks_up_to : ℕ → List Mark → List Mark
marks_up_to count marks = filter (λ m. nat_le m.moments count) marks

-- the marks that are left after the first moments joined the base: those of a smaller number are gone, and the others count
-- from the new base on
abbrev pub marks_from : ℕ → List Mark → List Mark
marks_from count marks = each (λ (m : Mark). record m { moments = m.moments - count }) (filter (λ m. nat_le count m.moments) marks)

-- ---- forgotten marks
-- the names of the marks of a smaller number
abbrev pub names_below : ℕ → List Mark → List (List ℕ)
names_below count marks = each (λ (m : Mark). m.name) (filter (λ m. nat_lt m.moments count) marks)

abbrev pub is_among_names : List ℕ → List (List ℕ) → Bool
is_among_names name names = list_any (λ other. pointwise nat_eq other name) names

-- the other names
abbrev pub without_name : List ℕ → List (List ℕ) → List (List ℕ)
without_name name names = filter (λ other. not (pointwise nat_eq other name)) names
