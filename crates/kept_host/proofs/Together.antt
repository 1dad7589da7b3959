-- One taking out, and others after it.
use Rattle.std.proofs.Common.{◌≡◌, inl, inr, ℕ, List, [], ◌∷◌, ◌++◌, length, arith, refl, sym, ◌∙◌, ap, subst, append_assoc, Option, Some, None}
use Rattle.std.specs.Prelude.{map as each}
use Rattle.std.specs.List.{AllByRecursion}
use Rattle.journal_model.specs.Book.{PlainBook}
use Rattle.console_answer.specs.declared.fault.Fault.{Fault}
use Rattle.console_answer.specs.declared.mishap.Mishap.{Mishap}
use Rattle.console_answer.specs.Mishaps.{later, mishap_behind}
use Rattle.console_script.specs.Tallies.{mishap_in}
use Rattle.console_script.specs.Transcript.{accepted_one, Session, Step, step_done, after_steps, transcript, AreRight}
use Rattle.console_script.proofs.StepRuns.{after-then, transcript-then}
use Rattle.kept_host.specs.Taking.{taking_line, Around, script_on, MakesNone, AllTaken, OneRefused, IsWhy}

-- ---- steps after steps
both_lists : {A : Type 0} (P : A → Type 0) (xs ys : List A) → AllByRecursion P xs → AllByRecursion P ys → AllByRecursion P (xs ++ ys)
both_lists P [] ys h k = k
both_lists P (x ∷ xs) ys h k = (h.0, both_lists P xs ys h.1 k)

right_then : (s : Session) (run more : List Step) → AreRight [] s run → AreRight [] (after_steps [] s run) more → AreRight [] s (run ++ more)
right_then s [] more h k = k
right_then s (it ∷ run) more h k = (h.0, right_then (step_done [] s it).0 run more h.1 k)

none_later : (first second : Option Mishap) → later first second ≡ None → (first ≡ None) × (second ≡ None)
none_later first None h = (h, refl)
none_later first (Some it) h = absurd (cc)

well_then : (s : Session) (run more : List Step) → mishap_in [] s run ≡ None → mishap_in [] (after_steps [] s run) more ≡ None → mishap_in [] s (run ++ more) ≡ None
well_then s [] more h k = k
well_then s (it ∷ run) more h k =
    let parts = none_later (mishap_behind None (step_done [] s it).1) (mishap_in [] (step_done [] s it).0 run) h in
    ap (later (mishap_behind None (step_done [] s it).1)) (well_then (step_done [] s it).0 run more parts.1 k) ∙ parts.0

-- ---- none
pub none_taken : (b : PlainBook) → AllTaken [] b b []
none_taken b = record { run = []; boxless = tt; right = λ around. tt; well = λ around. refl; is = λ around. refl; answers = λ around. refl }

-- ---- one, and these after it
module _ (serial : ℕ) (serials : List ℕ) where
  -- the lines of the others come after the first, and the first is one more that was accepted
  abbrev before_others : Around → Around
  before_others around = record { runs = around.runs; summary = around.summary; left = each taking_line serials ++ around.left }

  abbrev behind_one : Around → Around
  behind_one around = record { runs = around.runs; summary = accepted_one around.summary; left = around.left }

  module _ (b c : PlainBook) (text : List ℕ) (first : AllTaken (serial ∷ []) b c text) where
    at_others : (around : Around) → script_on c (behind_one around) serials ≡ after_steps [] (script_on b around (serial ∷ serials)) first.run
    at_others around = sym (first.is (before_others around))

    pub all_then : (d : PlainBook) (more : List ℕ) → AllTaken serials c d more → AllTaken (serial ∷ serials) b d (text ++ more)
    all_then d more then = record {
      run = first.run ++ then.run;
      boxless = both_lists MakesNone first.run then.run first.boxless then.boxless;
      right = λ around. right_then (script_on b around (serial ∷ serials)) first.run then.run (first.right (before_others around))
          (subst (λ (s : Session). AreRight [] s then.run) (at_others around) (then.right (behind_one around)));
      well = λ around. well_then (script_on b around (serial ∷ serials)) first.run then.run (first.well (before_others around))
          (subst (λ (s : Session). mishap_in [] s then.run ≡ None) (at_others around) (then.well (behind_one around)));
      is = λ around. after-then [] (script_on b around (serial ∷ serials)) first.run then.run
          ∙ ap (λ (s : Session). after_steps [] s then.run) (sym (at_others around))
          ∙ then.is (behind_one around);
      answers = λ around. transcript-then [] (script_on b around (serial ∷ serials)) first.run then.run
          ∙ ap (λ front. front ++ transcript [] (after_steps [] (script_on b around (serial ∷ serials)) first.run) then.run) (first.answers (before_others around))
          ∙ ap (λ (s : Session). text ++ transcript [] s then.run) (sym (at_others around))
          ∙ ap (λ rest. text ++ rest) (then.answers (behind_one around));
    }

    pub refused_then : (fault : Fault) → OneRefused serials c fault → OneRefused (serial ∷ serials) b fault
    refused_then fault then = record {
      run = first.run ++ then.run;
      last = then.last;
      boxless = subst (AllByRecursion MakesNone) (sym (append_assoc first.run then.run (then.last ∷ [])))
          (both_lists MakesNone first.run (then.run ++ then.last ∷ []) first.boxless then.boxless);
      right = λ around. subst (AreRight [] (script_on b around (serial ∷ serials))) (sym (append_assoc first.run then.run (then.last ∷ [])))
          (right_then (script_on b around (serial ∷ serials)) first.run (then.run ++ then.last ∷ []) (first.right (before_others around))
          (subst (λ (s : Session). AreRight [] s (then.run ++ then.last ∷ [])) (at_others around) (then.right (behind_one around))));
      well = λ around. well_then (script_on b around (serial ∷ serials)) first.run then.run (first.well (before_others around))
          (subst (λ (s : Session). mishap_in [] s then.run ≡ None) (at_others around) (then.well (behind_one around)));
      refused = λ around. ap (λ (s : Session). (step_done [] s then.last).1) (after-then [] (script_on b around (serial ∷ serials)) first.run then.run
          ∙ ap (λ (s : Session). after_steps [] s then.run) (sym (at_others around)))
          ∙ then.refused (behind_one around);
    }

  -- the first is refused, and the others are not tried
  refused_first : (b : PlainBook) (fault : Fault) → OneRefused (serial ∷ []) b fault → OneRefused (serial ∷ serials) b fault
  refused_first b fault it = record {
    run = it.run;
    last = it.last;
    boxless = it.boxless;
    right = λ around. it.right (before_others around);
    well = λ around. it.well (before_others around);
    refused = λ around. it.refused (before_others around);
  }

  pub why_first : (b : PlainBook) (fault : Fault) → IsWhy (serial ∷ []) b fault → IsWhy (serial ∷ serials) b fault
  why_first b fault (inl lack) = inl lack
  why_first b fault (inr it) = inr (refused_first b fault it)

-- why, of the first that are left
pub why_of : (serials left : List ℕ) (b c : PlainBook) (fault : Fault) → (OneRefused left c fault → OneRefused serials b fault) → IsWhy left c fault → IsWhy serials b fault
why_of serials left b c fault onward (inl lack) = inl lack
why_of serials left b c fault onward (inr it) = inr (onward it)

pub no_serials : (xs : List ℕ) → length xs ≡ 0 → xs ≡ []
no_serials [] h = refl
no_serials (x ∷ xs) h = absurd (omega (arith, h))
