-- A talk on a host just opened.
use Rattle.std.proofs.Common.{◌≡◌, ℕ, List, Option, Result, Ok, Err, subst}
use Rattle.std.specs.Prelude.{IfOk, OnOk}
use Rattle.journal_model.specs.Book.{PlainBook, opened}
use Rattle.console_script.specs.Made.{AllGetNew}
use Rattle.console_input.specs.Named.{AreFilesOf}
use Rattle.console_input.specs.declared.fault.ReadFault.{ReadFault}
use Rattle.console_input.specs.declared.source.TheConstants.{MOST_SCRIPT}
use Rattle.console_script.specs.declared.summary.Summary.{Summary}
use Rattle.console_script.specs.Transcript.{Step}
use Rattle.console_talk.specs.declared.manner.Manner.{Manner}
use Rattle.console_talk.specs.Talk.{TookAtMost, Talked, front, IsWhole}
use Rattle.console_talk.proofs.Spoken.{talked_so, whole_input}
use Rattle.console_script.specs.Host.{device_names, limits}
use Rattle.console_talk.specs.Anew.{TalkedAnew}

module _ {S E : Type 0} (P : S → List Step → S → Type 0) (may_read : List ℕ → ℕ → Result (List ℕ) ReadFault → Type 0) (implies : (from : S) (run : List Step) (to : S) → P from run to → AllGetNew run) (manner : Manner) (reader input : Option (List ℕ)) (is : input ≡ front reader) (b : PlainBook) (from : S) (old : Option (List ℕ)) (book : PlainBook) (to : S) (new : Option (List ℕ)) where
  pub talked_anew : (result : Result Summary E) → opened device_names limits ≡ Ok b → IfOk result (λ summary. Talked P (AreFilesOf may_read) manner input b from old book to new summary)
      → IfOk result (λ summary. TalkedAnew may_read manner (front reader) old new summary)
  talked_anew (Ok summary) opens it = subst (λ (bytes : Option (List ℕ)). TalkedAnew may_read manner bytes old new summary) is
      (record { book = b; opens = opens; left = book; talked = talked_so P AllGetNew (AreFilesOf may_read) implies manner input b from old book to new summary it })
  talked_anew (Err fault) opens it = tt

  pub talked_whole : (result : Result Summary E) → IfOk result (λ summary. Talked P (AreFilesOf may_read) manner input b from old book to new summary) → OnOk result (IsWhole manner reader)
  talked_whole (Ok summary) it = whole_input manner reader it.unsaid it.stops (subst (λ (bytes : Option (List ℕ)). TookAtMost MOST_SCRIPT bytes it.unsaid) is it.took)
  talked_whole (Err fault) it = tt
