-- What a crash leaves after lines on a kept book, whatever they came to.
use Rattle.std.proofs.Common.{◌≡◌, ◌⊎◌, inl, inr, ℕ, List, [], ◌∷◌, ◌++◌, Option, refl, sym, ap, subst, ◌∙◌, append_assoc, append-nil}
use Rattle.std.specs.Io.KnownBytes.{Appends}
use Rattle.sqlite_trees.specs.Tree.{Trees}
use Rattle.sqlite.specs.State.{State, HasCleanDisk}
use Rattle.journal_model.specs.Book.{PlainBook}
use Rattle.bt_syntax.specs.declared.files.FileText.{FileText}
use Rattle.console_text.specs.Written.{WritesFront}
use Rattle.console_text.proofs.Writing.{Appends-then}
use Rattle.console_script.specs.Transcript.{Session, Step, step_done, after_steps, transcript, AreRight}
use Rattle.console_script.proofs.StepRuns.{after-then, transcript-then}
use Rattle.kept_ledger.specs.TermsView.{PlainTerms}
use Rattle.kept_file.specs.Keeps.{HoldsBook, HoldsOne}
use Rattle.kept_lines.specs.declared.fault.LinesFault.{LinesFault}
use Rattle.kept_lines.specs.declared.fault.LinesFault.TheVariants.{CannotKeep, Write}
use Rattle.kept_lines.specs.Kept.{IsOnDisk, Stops, WritesSome, IsFront, LeavesFront}

-- ---- steps after steps
right_then : (files : List FileText) (s : Session) (run more : List Step) → AreRight files s run → AreRight files (after_steps files s run) more → AreRight files s (run ++ more)
right_then files s [] more before here = here
right_then files s (it ∷ run) more before here = (before.0, right_then files (step_done files s it).0 run more before.1 here)

wrote_all : (old new : Option (List ℕ)) (text : List ℕ) → Appends old new text → WritesSome old new text
wrote_all old new text wrote = record { written = text; unwritten = []; cut = sym (append-nil text); appends = wrote }

module _ (files : List FileText) (start : Session) (Began : PlainTerms → Type 0) (new : State) (out_old out_new : Option (List ℕ)) where
  -- the book after some steps, and after more
  module _ (run more : List Step) (right : AreRight files start run) (further : AreRight files (after_steps files start run) more) where
    both_text : transcript files start (run ++ more) ≡ transcript files start run ++ transcript files (after_steps files start run) more
    both_text = transcript-then files start run more

    front_of_both : WritesSome out_old out_new (transcript files start (run ++ more)) → IsFront files start out_old out_new (after_steps files (after_steps files start run) more).console.book
    front_of_both answered = record {
      run = run ++ more;
      right = right_then files start run more right further;
      answered = answered;
      book = ap (λ (s : Session). s.console.book) (sym (after-then files start run more));
    }

    front_of_first : Appends out_old out_new (transcript files start run) → IsFront files start out_old out_new (after_steps files start run).console.book
    front_of_first wrote = record { run = run; right = right; answered = wrote_all out_old out_new (transcript files start run) wrote; book = refl }

    more_unwritten : Appends out_old out_new (transcript files start run) → WritesSome out_old out_new (transcript files start (run ++ more))
    more_unwritten wrote = record { written = transcript files start run; unwritten = transcript files (after_steps files start run) more; cut = both_text; appends = wrote }

    more_cut : (so_far : Option (List ℕ)) → Appends out_old so_far (transcript files start run) → WritesFront so_far out_new (transcript files (after_steps files start run) more)
        → WritesSome out_old out_new (transcript files start (run ++ more))
    more_cut so_far wrote front = record {
      written = transcript files start run ++ front.written;
      unwritten = front.unwritten;
      cut = both_text ∙ ap (λ text. transcript files start run ++ text) front.cut ∙ sym (append_assoc (transcript files start run) front.written front.unwritten);
      appends = Appends-then out_old so_far out_new (transcript files start run) front.written wrote front.appends;
    }

  holds_one : (t : PlainTerms) (db : Trees) (c : PlainBook) → IsFront files start out_old out_new c → HoldsBook t c db → HoldsOne t (IsFront files start out_old out_new) db
  holds_one t db c front held = record { book = c; is = front; holds = held }

  -- ---- where it came to its end, and where it did not
  pub leaves_all : (left : PlainBook) (run : List Step) → AreRight files start run → Appends out_old out_new (transcript files start run) → left ≡ (after_steps files start run).console.book
      → (HasCleanDisk new → (t : PlainTerms) → Began t → IsOnDisk t new left) → LeavesFront files start Began new out_old out_new
  leaves_all left run right wrote book kept clean t is db may =
      let front : IsFront files start out_old out_new left = record { run = run; right = right; answered = wrote_all out_old out_new (transcript files start run) wrote; book = book } in
      holds_one t db left front ((kept clean t is).leaves db may)

  pub leaves_stopped : (fault : LinesFault) → Stops files start Began new out_old out_new fault → LeavesFront files start Began new out_old out_new
  leaves_stopped (CannotKeep why) h clean t is db may = elim ((h.disk clean t is).leaves db may) [
    | inl held ↦ holds_one t db _ (front_of_first h.run h.more h.right h.further h.written) held
    | inr held ↦ holds_one t db _ (front_of_both h.run h.more h.right h.further (more_unwritten h.run h.more h.right h.further h.written)) held
  ]
  leaves_stopped Write h clean t is db may =
      holds_one t db _ (front_of_both h.run h.more h.right h.further (more_cut h.run h.more h.right h.further h.so_far h.written h.front)) ((h.disk clean t is).leaves db may)
