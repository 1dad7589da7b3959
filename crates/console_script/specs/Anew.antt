-- A script on a new host.
use Rattle.std.specs.Prelude.{◌≡◌, ℕ, List, Option, Result, Ok, Err}
use Rattle.journal_model.specs.Book.{PlainBook, opened}
use Rattle.journal_model.specs.declared.faults.BookFault.TheVariants as book
use Rattle.journal_model.specs.declared.limits.Limits.{Limits}
use Rattle.bt_syntax.specs.declared.files.FileText.{FileText}
use Rattle.console_script.specs.Transcript.{Step, RanAll, RanTo}
use Rattle.console_script.specs.declared.summary.Summary.{Summary}
use Rattle.console_script.specs.declared.fault.HostFault.{HostFault}
use Rattle.console_script.specs.declared.fault.HostFault.TheVariants.{BadDevices, BadLimits, NoMemory, Write}

-- a book was opened with these devices and limits, and all lines were run on it, with boxes that were supplied so
pub record RanAnew (old new : Option (List ℕ)) (devices : List (List ℕ)) (limits : Limits) (supplied : List Step → Type 0) (files : List FileText) (script : List ℕ) (summary : Summary) : Type 0 where
  pub book : PlainBook
  pub opens : opened devices limits ≡ Ok book
  pub left : PlainBook
  pub ran : RanAll old new book supplied files script left summary

-- and the lines were run on it up to one whose text was not written
pub record StoppedAnew (old new : Option (List ℕ)) (devices : List (List ℕ)) (limits : Limits) (supplied : List Step → Type 0) (files : List FileText) (script : List ℕ) : Type 0 where
  pub book : PlainBook
  pub opens : opened devices limits ≡ Ok book
  pub left : PlainBook
  pub ran : RanTo old new book supplied files script left

-- how a script went on a new host; if no book was opened nothing was written
abbrev pub RunsAnew : Option (List ℕ) → Option (List ℕ) → List (List ℕ) → Limits → (List Step → Type 0) → List FileText → List ℕ → Result Summary HostFault → Type 0
RunsAnew old new devices limits supplied files script (Ok summary) = RanAnew old new devices limits supplied files script summary
RunsAnew old new devices limits supplied files script (Err BadDevices) = (opened devices limits ≡ Err book.BadDevices) × (new ≡ old)
RunsAnew old new devices limits supplied files script (Err BadLimits) = (opened devices limits ≡ Err book.BadLimits) × (new ≡ old)
RunsAnew old new devices limits supplied files script (Err NoMemory) = new ≡ old
RunsAnew old new devices limits supplied files script (Err Write) = StoppedAnew old new devices limits supplied files script
