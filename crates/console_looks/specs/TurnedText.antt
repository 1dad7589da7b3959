-- How moments that are taken back or brought back are told.
use Rattle.std.specs.Prelude.{ℕ, ◌-◌, ◌==◌, if◌then◌else◌, List, [], ◌∷◌, ◌++◌, length, codes, decimal}
use Rattle.std.specs.List.{flat_map, concat}
use Rattle.console_text.specs.Text.{made_text}
use Rattle.console_looks.specs.declared.turned.MomentRow.{MomentRow}
use Rattle.console_looks.specs.declared.turned.MomentRow.TheVariants.{Change, Without, TakenOut}
use Rattle.console_looks.specs.declared.turned.Turned.{Turned}

abbrev pub row_text : MomentRow → List ℕ
row_text (Change row) = made_text row
row_text (Without serial out) = concat (decimal serial ∷ codes " console without " ∷ decimal out ∷ [])
row_text (TakenOut serial) = concat (decimal serial ∷ codes " taken out" ∷ [])

-- the first after a colon, each other one after a comma
abbrev pub next_text : MomentRow → List ℕ
next_text row = codes ", " ++ row_text row

abbrev pub rows_text : List MomentRow → List ℕ
rows_text [] = []
rows_text (row ∷ rows) = (codes ": " ++ row_text row) ++ flat_map next_text rows

-- how many more there are, if there are any
abbrev pub more_text : ℕ → List ℕ
more_text more = if more == 0 then [] else concat (codes " and " ∷ decimal more ∷ codes " more" ∷ [])

abbrev pub told_text : List MomentRow → ℕ → List ℕ
told_text rows more = rows_text rows ++ more_text more

abbrev pub moments_word : ℕ → List ℕ
moments_word count = if count == 1 then codes " moment" else codes " moments"

abbrev pub head_text : List ℕ → ℕ → List ℕ
head_text did count = concat (did ∷ codes " " ∷ decimal count ∷ moments_word count ∷ [])

-- after what was done to them, without a line end
abbrev pub turned_text : List ℕ → Turned → List ℕ
turned_text did it = head_text did it.count ++ told_text it.rows.items (it.count - length it.rows.items)
