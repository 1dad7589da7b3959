-- What contracts see of the marks of a book.
use Rattle.std.specs.Prelude.{ℕ, List, map as each, refl}
use Rattle.std.specs.Coded.{Coded, code_by, coded×, coded_ℕ, coded_list}
use Rattle.journal_model.specs.Marks.{Mark, marks_from, names_below}

-- a mark by its name, with the number of all moments before it
abbrev pub mark_of : List ℕ × ℕ → Mark
mark_of e = record { name = e.0; moments = e.1 }

-- how many moments have joined the base, the marks that stand, counted from there on, and the names of the forgotten ones
pub record MarksView : Type 0 where
  pub gone : ℕ
  pub standing : List Mark
  pub forgotten : List (List ℕ)

abbrev pub mark_code : Coded Mark
mark_code = code_by (List ℕ × ℕ) (coded× (coded_list coded_ℕ) coded_ℕ) (λ m. (m.name, m.moments)) (λ p. record { name = p.0; moments = p.1 }) (λ _. refl)

abbrev pub marks_code : Coded MarksView
marks_code =
    code_by (ℕ × (List Mark × List (List ℕ))) (coded× coded_ℕ (coded× (coded_list mark_code) (coded_list (coded_list coded_ℕ)))) (λ v. (v.gone, (v.standing, v.forgotten)))
    (λ p. record { gone = p.0; standing = p.1.0; forgotten = p.1.1 }) (λ _. refl)

abbrev pub seen_marks : ℕ → List (List ℕ × ℕ) → MarksView
seen_marks gone es = record { gone = gone; standing = marks_from gone (each mark_of es); forgotten = names_below gone (each mark_of es) }
