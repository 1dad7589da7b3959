-- What contracts see of a book.
use Rattle.std.specs.Prelude.{◌≡◌, ◌⊎◌, ℕ, List, Option, Result, Ok, Err, refl}
use Rattle.std.specs.Coded.{Coded, code_by, coded×, coded_ℕ, coded_list, coded_option}
use Rattle.journal_model.specs.Plain.{Pasts}
use Rattle.journal_model.specs.Marks.{Mark}
use Rattle.journal_model.specs.Book.{PlainBook}
use Rattle.journal_model.specs.contracts.limits.Limits as limits
use Rattle.journal_model.specs.declared.limits.Limits.{Limits}
use Rattle.journal_model.specs.declared.faults.BookFault.{BookFault}
use Rattle.journal_model.specs.declared.faults.BookFault.TheVariants.{NoMemory}
use Rattle.journal_keeping.specs.View.{pasts_code}
use Rattle.journal_keeping.specs.MarksView.{mark_code}

-- the plain book, and the units of work done
pub record BookView : Type 0 where
  pub plain : PlainBook
  pub work : ℕ

abbrev pub book_code : Coded PlainBook
book_code =
    code_by (Pasts × (ℕ × (List Mark × (List (List ℕ) × (Option ℕ × (ℕ × (ℕ × (ℕ × Limits))))))))
    (coded× pasts_code (coded× coded_ℕ (coded× (coded_list mark_code) (coded× (coded_list (coded_list coded_ℕ)) (coded× (coded_option coded_ℕ) (coded× coded_ℕ (coded× coded_ℕ (coded× coded_ℕ limits.the_row.coded))))))))
    (λ b. (b.line, (b.gone, (b.marks, (b.forgotten_marks, (b.gave_up, (b.last_serial, (b.last_map, (b.last_prog, b.limits)))))))))
    (λ p. record {
      line = p.0;
      gone = p.1.0;
      marks = p.1.1.0;
      forgotten_marks = p.1.1.1.0;
      gave_up = p.1.1.1.1.0;
      last_serial = p.1.1.1.1.1.0;
      last_map = p.1.1.1.1.1.1.0;
      last_prog = p.1.1.1.1.1.1.1.0;
      limits = p.1.1.1.1.1.1.1.1;
    }) (λ _. refl)

abbrev pub view_code : Coded BookView
view_code = code_by (PlainBook × ℕ) (coded× book_code coded_ℕ) (λ v. (v.plain, v.work)) (λ p. record { plain = p.0; work = p.1 }) (λ _. refl)

-- a new book is made, on which no work was done, or why not
abbrev pub Opens : Result PlainBook BookFault → Result BookView BookFault → Type 0
Opens plain (Ok b) = (plain ≡ Ok b.plain) × (b.work ≡ 0)
Opens plain (Err fault) = (fault ≡ NoMemory) ⊎ (plain ≡ Err fault)
