-- A script that was run on a book just opened.
use Rattle.std.proofs.Common.{◌≡◌, ℕ, List, Option, Result, Ok, Err}
use Rattle.std.specs.Prelude.{IfOk}
use Rattle.journal_model.specs.Book.{PlainBook, opened}
use Rattle.journal_model.specs.declared.limits.Limits.{Limits}
use Rattle.bt_syntax.specs.declared.files.FileText.{FileText}
use Rattle.console_script.specs.Transcript.{Step, RanAll}
use Rattle.console_script.specs.declared.summary.Summary.{Summary}
use Rattle.console_script.specs.Anew.{RanAnew}

module _ (old new : Option (List ℕ)) (devices : List (List ℕ)) (limits : Limits) (P Q : List Step → Type 0) (files : List FileText) (script : List ℕ) (book left : PlainBook) where
  -- if what holds of its boxes implies another fact, that holds of them too
  pub with_boxes : (summary : Summary) → ((run : List Step) → P run → Q run) → RanAll old new book P files script left summary → RanAll old new book Q files script left summary
  with_boxes summary implies it = record {
    run = it.run;
    boxes = implies it.run it.boxes;
    right = it.right;
    all = it.all;
    written = it.written;
    book = it.book;
    counts = it.counts;
  }

  pub ran_on_new : {E : Type 0} (result : Result Summary E) → ((run : List Step) → P run → Q run) → opened devices limits ≡ Ok book →
      IfOk result (λ summary. RanAll old new book P files script left summary) → IfOk result (λ summary. RanAnew old new devices limits Q files script summary)
  ran_on_new (Ok summary) implies opens it = record { book = book; opens = opens; left = left; ran = with_boxes summary implies it }
  ran_on_new (Err fault) implies opens it = tt
