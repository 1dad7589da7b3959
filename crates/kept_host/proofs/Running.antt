-- The lines of a script on the book that was begun.
use Rattle.std.proofs.Common.{ℕ, List, Option, Ok, Err, refl, sym, subst}
use Rattle.sqlite.specs.State.{State, HasCleanDisk}
use Rattle.journal_model.specs.Book.{PlainBook}
use Rattle.bt_journal.specs.BookView.{BookView}
use Rattle.bt_syntax.specs.declared.files.FileText.{FileText}
use Rattle.console_script.specs.Transcript.{Step, RanAll}
use Rattle.console_script.specs.declared.summary.Summary.{Summary}
use Rattle.console_script.specs.Made.{AllGetNew}
use Rattle.kept_ledger.specs.TermsView.{PlainTerms}
use Rattle.kept_lines.specs.Kept.{IsOnDisk, Stops, script_on}
use Rattle.kept_lines.specs.declared.fault.LinesFault.{LinesFault}
use Rattle.kept_lines.specs.declared.fault.KeptFault.{KeptFault}
use Rattle.kept_lines.specs.declared.fault.KeptFault.TheVariants.{Open, Make, Lines}
use Rattle.kept_lines.specs.Begun.{WasReady, HasBook, BeginsOn}
use Rattle.kept_lines.proofs.Beginning.{begun_on, stops_by}
use Rattle.kept_host.specs.Runs.{RunsKept}

module _ (terms : PlainTerms) (files : List FileText) (script : List ℕ) (old : State) (out_old : Option (List ℕ)) where
  -- no line was run
  pub not_run : (new : State) (fault : KeptFault) → BeginsOn terms old new (Err fault) → RunsKept terms files script old new out_old out_old (Err fault)
  not_run new (Open why) it = (record { unwritten = refl; disk = it.0 }, it.1)
  not_run new (Make error) it = record { unwritten = refl; disk = it }
  not_run new (Lines why) it = absurd it

  module _ (mid new : State) (out_new : Option (List ℕ)) (book : BookView) (left : PlainBook) (begins : BeginsOn terms old mid (Ok book)) (clean_before : HasCleanDisk new → HasCleanDisk mid) where
    pub ran_kept : (P : List Step → Type 0) (summary : Summary) → ((run : List Step) → P run → AllGetNew run) → RanAll out_old out_new book.plain P files script left summary
        → (HasCleanDisk new → (t : PlainTerms) → IsOnDisk t mid book.plain → IsOnDisk t new left) → RunsKept terms files script old new out_old out_new (Ok summary)
    ran_kept P summary implies it kept = record {
      book = book.plain;
      left = left;
      ran = record { run = it.run; boxes = implies it.run it.boxes; right = it.right; all = it.all; written = it.written; book = it.book; counts = it.counts };
      kept = λ clean ready t b has.
          let begun = begins (clean_before clean) ready t b has in
          (begun.0, kept clean t (subst (IsOnDisk t mid) (sym begun.0) begun.1));
    }

    pub stops_kept : (why : LinesFault) → Stops files (script_on book.plain script) (λ t. IsOnDisk t mid book.plain) new out_old out_new why → RunsKept terms files script old new out_old out_new (Err (Lines why))
    stops_kept why it = record {
      book = book.plain;
      stops = stops_by files (script_on book.plain script) (λ t. WasReady old × HasBook terms t old book.plain) (λ t. IsOnDisk t mid book.plain) new out_old out_new why (λ clean. begun_on terms old mid book begins (clean_before clean)) it;
    }
