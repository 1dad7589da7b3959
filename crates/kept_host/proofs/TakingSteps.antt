-- The step of a line that takes a change out.
use Rattle.std.proofs.Common.{◌≡◌, inl, inr, ℕ, ◌^◌, ◌<◌, Bool, true, false, [], ◌∷◌, refl, sym, ◌∙◌, ap, subst, Option, Some, None, Result, Ok, Err}
use Rattle.std.proofs.lemmas.Bool.{eq-eqb}
use Rattle.journal_model.specs.declared.faults.WithoutFault.{WithoutFault}
use Rattle.journal_model.specs.declared.faults.WithoutFault.TheVariants as without
use Rattle.journal_model.specs.Book.{PlainBook, OrNoMemory}
use Rattle.journal_model.specs.Without.{taken_out}
use Rattle.bt_without.specs.TakesOut.{HasOutcome}
use Rattle.bt_syntax.specs.Files.{batch_at}
use Rattle.bt_syntax.specs.Needs.{need_in}
use Rattle.bt_syntax.specs.Steps.{line_read}
use Rattle.console_answer.specs.declared.answer.Answer.{Answer}
use Rattle.console_answer.specs.declared.answer.Answer.TheVariants.{TakenOut}
use Rattle.console_answer.specs.Answers.{taken_out_answer, without_fault_of}
use Rattle.console_answer.specs.Mishaps.{mishap_behind}
use Rattle.console_text.specs.Text.{text_of}
use Rattle.console_text.proofs.Writing.{append_nil}
use Rattle.console_script.specs.Frames.{Console, console_of}
use Rattle.console_script.specs.Lines.{line_done, line_text, read_done, with_files, IsRightLine, IsRightRead}
use Rattle.console_script.specs.Transcript.{Session, Step, place_of, gone_on, script_line_done, step_done, IsRightStep}
use Rattle.console_script.proofs.Commanded.{course_of}
use Rattle.kept_event.specs.declared.event.KeptEvent.TheVariants as kept
use Rattle.kept_book.specs.Leading.{is_taken_out_as, LeadTo}
use Rattle.kept_host.specs.Taking.{taking_line, Around, script_on, MakesNone, AllTaken, OneRefused, IsWhy}
use Rattle.kept_host.proofs.TakingRead.{taking_read}

module _ (serial : ℕ) (small : serial < 2 ^ 64) where
  -- with whether an allocation failed in it
  abbrev taking_step : Bool → Step
  taking_step refused = record { line = Some (taking_line serial); course = course_of refused; blank = None }

  makes_none : (refused : Bool) → MakesNone (taking_step refused)
  makes_none refused = (ap need_in (taking_read serial small), refl)

  runs_no_batch : batch_at [] (line_read (taking_line serial)) ≡ None
  runs_no_batch = ap (batch_at []) (taking_read serial small)

  module _ (b : PlainBook) where
    right_line : (refused : Bool) → IsRightLine [] b (course_of refused) (taking_line serial)
    right_line true = tt
    right_line false = subst (λ read. IsRightRead b (course_of false) (with_files [] read)) (sym (taking_read serial small)) tt

    module _ (around : Around) where
      abbrev at : Session
      at = script_on b around (serial ∷ [])

      abbrev console : Console
      console = console_of b around.runs

      right_step : (refused : Bool) → IsRightStep [] at (taking_step refused)
      right_step refused = record { next = refl; right = right_line refused }

      done_plainly : line_done [] (course_of false) console None (taking_line serial) ≡ (console_of (taken_out b serial).0 around.runs, Some (taken_out_answer (taken_out b serial).1))
      done_plainly = ap (λ read. read_done console (course_of false) None (with_files [] read)) (taking_read serial small)

      stepped : step_done [] at (taking_step false) ≡ gone_on at (place_of around.left None) (console_of (taken_out b serial).0 around.runs, Some (taken_out_answer (taken_out b serial).1))
      stepped = ap (script_line_done [] at (taking_step false) (taking_line serial) around.left) runs_no_batch ∙ ap (gone_on at (place_of around.left None)) done_plainly

      -- as the book does it
      done_as : (c : PlainBook) (r : Result ℕ WithoutFault) → (c, r) ≡ taken_out b serial → step_done [] at (taking_step false) ≡ gone_on at (place_of around.left None) (console_of c around.runs, Some (taken_out_answer r))
      done_as c r is = stepped ∙ ap (λ (made : PlainBook × Result ℕ WithoutFault). gone_on at (place_of around.left None) (console_of made.0 around.runs, Some (taken_out_answer made.1))) (sym is)

    one_taken : (c : PlainBook) (own : ℕ) → (c, Ok own) ≡ taken_out b serial → AllTaken (serial ∷ []) b c (text_of (TakenOut own))
    one_taken c own is = record {
      run = taking_step false ∷ [];
      boxless = (makes_none false, tt);
      right = λ around. (right_step around false, tt);
      well = λ around. ap (λ (done : Session × Option Answer). mishap_behind None done.1) (done_as around c (Ok own) is);
      is = λ around. ap (λ (done : Session × Option Answer). done.0) (done_as around c (Ok own) is);
      answers = λ around. append_nil _ ∙ ap (λ (done : Session × Option Answer). line_text done.1) (done_as around c (Ok own) is);
    }

    one_refused : (c : PlainBook) (fault : WithoutFault) → (c, Err fault) ≡ taken_out b serial → OneRefused (serial ∷ []) b (without_fault_of fault)
    one_refused c fault is = record {
      run = [];
      last = taking_step false;
      boxless = (makes_none false, tt);
      right = λ around. (right_step around false, tt);
      well = λ around. refl;
      refused = λ around. ap (λ (done : Session × Option Answer). done.1) (done_as around c (Err fault) is);
    }

  -- ---- what the book answers
  module _ (b c : PlainBook) where
    accepted : (own : ℕ) → OrNoMemory b without.NoMemory (taken_out b serial) (c, Ok own) → (c, Ok own) ≡ taken_out b serial
    accepted own (true, e) = let bad : ◌≡◌ {A = Result ℕ WithoutFault} (Ok own) (Err without.NoMemory) = ap (λ (made : PlainBook × Result ℕ WithoutFault). made.1) e in cc
    accepted own (false, e) = e

    pub taken_one : (own : ℕ) → OrNoMemory b without.NoMemory (taken_out b serial) (c, Ok own) → AllTaken (serial ∷ []) b c (text_of (TakenOut own))
    taken_one own h = one_taken b c own (accepted own h)

    pub one_leads : (own : ℕ) → OrNoMemory b without.NoMemory (taken_out b serial) (c, Ok own) → LeadTo b (kept.TakenOut serial own ∷ []) c
    one_leads own h =
        let e : taken_out b serial ≡ (c, Ok own) = sym (accepted own h) in
        (ap (λ (made : PlainBook × Result ℕ WithoutFault). is_taken_out_as own made.1) e ∙ eq-eqb own own refl, ap (λ (made : PlainBook × Result ℕ WithoutFault). made.0) e)

    pub why_one : (fault : WithoutFault) → OrNoMemory b without.NoMemory (taken_out b serial) (c, Err fault) → IsWhy (serial ∷ []) b (without_fault_of fault)
    why_one fault (true, e) =
        let lack : ◌≡◌ {A = Result ℕ WithoutFault} (Err fault) (Err without.NoMemory) = ap (λ (made : PlainBook × Result ℕ WithoutFault). made.1) e in
        let same : fault ≡ without.NoMemory = cc in inl (ap without_fault_of same)
    why_one fault (false, e) = inr (one_refused b c fault e)

    pub stays_one : (fault : WithoutFault) → HasOutcome b serial c (Err fault) → c ≡ b
    stays_one without.NotInForce h = h.0
    stays_one without.SerialsSpent h = h.0
    stays_one without.JournalFull h = h.0
    stays_one (without.DependsOn first) h = h.0
    stays_one without.NoMemory h = h
