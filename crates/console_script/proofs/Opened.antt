-- A book was opened, and a script ran on it; or none was opened.
use Rattle.std.proofs.Common.{◌≡◌, inl, inr, ℕ, List, Option, Result, Ok, Err, sym, subst}
use Rattle.console_script.specs.BookView.{BookView, Opens}
use Rattle.journal_model.specs.Book.{PlainBook, opened}
use Rattle.journal_model.specs.declared.faults.BookFault.{BookFault}
use Rattle.journal_model.specs.declared.faults.BookFault.TheVariants as of_book
use Rattle.journal_model.specs.declared.limits.Limits.{Limits}
use Rattle.bt_syntax.specs.declared.files.FileText.{FileText}
use Rattle.console_script.specs.Transcript.{Step, Ran}
use Rattle.console_script.specs.declared.script.ScriptFault.{ScriptFault}
use Rattle.console_script.specs.declared.summary.Summary.{Summary}
use Rattle.console_script.specs.Anew.{RanAnew, StoppedAnew}
use Rattle.console_script.specs.declared.fault.HostFault.{HostFault}
use Rattle.console_script.specs.Host.{device_names, limits_of}
use Rattle.console_script.specs.Faults.{book_fault_of, TellsNone}

module _ (old new : Option (List ℕ)) (devices : List (List ℕ)) (limits : Limits) (supplied : List Step → Type 0) (files : List FileText) (script : List ℕ) (opening : Result BookView BookFault) (book : BookView) (left : PlainBook) (ran : Result Summary ScriptFault) where
  pub ran_anew : (summary : Summary) → opening ≡ Ok book → Opens (opened devices limits) opening → ran ≡ Ok summary → Ran old new book.plain supplied files script left ran → RanAnew old new devices limits supplied files script summary
  ran_anew summary is opens end it = record {
    book = book.plain;
    opens = (subst (λ r. Opens (opened devices limits) r) is opens).0;
    left = left;
    ran = subst (λ r. Ran old new book.plain supplied files script left r) end it;
  }

  pub stopped_anew : (fault : ScriptFault) → opening ≡ Ok book → Opens (opened devices limits) opening → ran ≡ Err fault → Ran old new book.plain supplied files script left ran → StoppedAnew old new devices limits supplied files script
  stopped_anew fault is opens end it = record {
    book = book.plain;
    opens = (subst (λ r. Opens (opened devices limits) r) is opens).0;
    left = left;
    ran = subst (λ r. Ran old new book.plain supplied files script left r) end it;
  }

pub tells_none : (moments : ℕ) (why : BookFault) (fault : HostFault) → fault ≡ book_fault_of why → Opens (opened device_names (limits_of moments)) (Err why) → TellsNone moments fault
tells_none moments why fault is opens = subst (TellsNone moments) (sym is) (by why opens)
  where
    by : (why : BookFault) → Opens (opened device_names (limits_of moments)) (Err why) → TellsNone moments (book_fault_of why)
    by of_book.NoMemory none = tt
    by of_book.BadDevices (inl other) = absurd (cc)
    by of_book.BadDevices (inr none) = none
    by of_book.BadLimits (inl other) = absurd (cc)
    by of_book.BadLimits (inr none) = none
