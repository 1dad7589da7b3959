-- Where the run of a number stands among the open ones, and what the commands on runs answer.
use Rattle.std.proofs.Common.{◌≡◌, ◌≢◌, ℕ, zero, suc, ◌+◌, ◌<◌, Bool, true, false, List, [], ◌∷◌, length, add-one, refl, sym, ◌∙◌, ap, subst, Option, Some, None, get_or, inl, inr, arith}
use Rattle.std.specs.Prelude.{slice_get, slice_set, remove, is_some, IfSome, ⊤}
use Rattle.std.specs.Option.{option_map}
use Rattle.std.proofs.lemmas.Bool.{eq-eqb, ne_eqb, cases_eq}
use Rattle.std.proofs.lemmas.Option.{slice_get_read, IfSome_then}
use Rattle.bt_interp.specs.Runs.{State}
use Rattle.journal_model.specs.Book.{PlainBook}
use Rattle.bt_syntax.specs.declared.frame.Frame.{Frame}
use Rattle.bt_syntax.specs.declared.run.RunCommand.{RunCommand}
use Rattle.bt_syntax.specs.declared.run.RunCommand.TheVariants.{Start, Step}
use Rattle.bt_console.specs.Commands.{DoneUnlessRefused, run_done, RunGoes}
use Rattle.bt_console.specs.Frames.{Console, console_of, OpenRuns, run_start, one_on, run_of, place_of, stepped, stepped_at, StepsAt, with_open, run_stepped, RunStepsAt, step_answer, run_told, step_at}
use Rattle.bt_interp.specs.declared.end.End.{End}
use Rattle.console_answer.specs.declared.answer.Answer.{Answer}
use Rattle.console_answer.specs.declared.answer.Answer.TheVariants.{Refused}
use Rattle.console_answer.specs.declared.fault.Fault.TheVariants.{NoRun}
use Rattle.bt_console.proofs.Commanded.{no_verdict, course_of, goes_plainly}

-- ---- a search
-- after so many runs of other numbers
abbrev pub behind : ℕ → Option ℕ → Option ℕ
behind n place = option_map (λ k. k + n) place

pub behind_none : (place : Option ℕ) → behind 0 place ≡ place
behind_none None = refl
behind_none (Some k) = ap Some (omega arith)

one_more : (n : ℕ) (it : Option (ℕ × State)) → behind n (option_map (λ it. it.0) (one_on it)) ≡ behind (n + 1) (option_map (λ it. it.0) it)
one_more n None = refl
one_more n (Some (place, s)) = ap Some (omega arith)

pub behind_other : (number n : ℕ) (run : ℕ × State) (runs : List (ℕ × State)) → run.0 ≢ number → behind n (place_of number (run ∷ runs)) ≡ behind (n + 1) (place_of number runs)
behind_other number n run runs other = rw (ne_eqb run.0 number other) (one_more n (run_of number runs))

pub behind_found : (number n : ℕ) (run : ℕ × State) (runs : List (ℕ × State)) → run.0 ≡ number → behind n (place_of number (run ∷ runs)) ≡ Some n
behind_found number n run runs is = rw (eq-eqb run.0 number is) (ap Some (omega arith))

-- ---- the run that was found
pub record Stands (number place : ℕ) (runs : List (ℕ × State)) : Type 0 where
  pub run : State
  pub found : run_of number runs ≡ Some (place, run)
  pub there : slice_get runs place ≡ Some (number, run)
  pub within : place < length runs

stands_on : (number place : ℕ) (run : ℕ × State) (runs : List (ℕ × State)) → Stands number place runs → run.0 ≢ number → Stands number (place + 1) (run ∷ runs)
stands_on number place run runs it other = record {
  run = it.run;
  found = rw (ne_eqb run.0 number other) (ap one_on it.found);
  there = rw (add-one place) it.there;
  within = let w = it.within in omega (arith, w);
}

stands_first : (number : ℕ) (run : ℕ × State) (runs : List (ℕ × State)) → run.0 ≡ number → Stands number 0 (run ∷ runs)
stands_first number run runs is = record {
  run = run.1;
  found = rw (eq-eqb run.0 number is) refl;
  there = ap (λ (n : ℕ). Some (n, run.1)) is;
  within = omega arith;
}

stands_behind : (number place : ℕ) (run : ℕ × State) (runs : List (ℕ × State)) (it : Option (ℕ × State)) → run_of number runs ≡ it → run.0 ≢ number → option_map (λ it. it.0) (one_on it) ≡ Some place →
    ((k : ℕ) → place_of number runs ≡ Some k → Stands number k runs) → Stands number place (run ∷ runs)
stands_behind number place run runs None is other e before = absurd (cc)
stands_behind number place run runs (Some (k, s)) is other e before =
    let here : k + 1 ≡ place = cc in
    subst (λ (p : ℕ). Stands number p (run ∷ runs)) here (stands_on number k run runs (before k (ap (option_map (λ (it : ℕ × State). it.0)) is)) other)

pub stands_at : (number : ℕ) (runs : List (ℕ × State)) (place : ℕ) → place_of number runs ≡ Some place → Stands number place runs
stands_at number [] place e = absurd (cc)
stands_at number (run ∷ runs) place e =
    elim (cases_eq run.0 number) [
      | inl is ↦
          let first : place_of number (run ∷ runs) ≡ Some 0 = rw (eq-eqb run.0 number is) refl in
          let here : 0 ≡ place = cc in
          subst (λ (p : ℕ). Stands number p (run ∷ runs)) here (stands_first number run runs is)
      | inr other ↦
          let later : place_of number (run ∷ runs) ≡ option_map (λ it. it.0) (one_on (run_of number runs)) = rw (ne_eqb run.0 number other) refl in
          stands_behind number place run runs (run_of number runs) refl other (sym later ∙ e) (stands_at number runs)
    ]

pub none_open : (number : ℕ) (runs : List (ℕ × State)) → place_of number runs ≡ None → run_of number runs ≡ None
none_open number runs e = by (run_of number runs) e
  where
    by : (it : Option (ℕ × State)) → option_map (λ it. it.0) it ≡ None → it ≡ None
    by None e = refl
    by (Some it) e = absurd (cc)

-- a run that goes on and is then taken away
pub removed_set : (runs : List (ℕ × State)) (place : ℕ) (run : ℕ × State) → remove (slice_set runs place run) place ≡ remove runs place
removed_set [] place run = refl
removed_set (first ∷ runs) zero run = refl
removed_set (first ∷ runs) (suc place) run = ap (λ (rest : List (ℕ × State)). first ∷ rest) (removed_set runs place run)

-- ---- a step
goes_on : (left : PlainBook) (runs : List (ℕ × State)) (place : ℕ) (run : ℕ × State) (new : State) (end : Option End) → is_some end ≡ false → (left, slice_set runs place (run.0, new), end) ≡ stepped_at runs place run.0 (left, new, end)
goes_on left runs place run new None on = refl
goes_on left runs place run new (Some end) on = absurd (cc)

goes_away : (left : PlainBook) (runs : List (ℕ × State)) (place : ℕ) (run : ℕ × State) (new : State) (end : Option End) → is_some end ≡ true → (left, remove (slice_set runs place (run.0, new)) place, end) ≡ stepped_at runs place run.0 (left, new, end)
goes_away left runs place run new None off = absurd (cc)
goes_away left runs place run new (Some end) off = ap (λ (rest : List (ℕ × State)). (left, rest, Some end)) (removed_set runs place (run.0, new))

at_place : (refused : Bool) (b : PlainBook) (runs : List (ℕ × State)) (place : ℕ) (run : ℕ × State) (made : PlainBook × List (ℕ × State) × Option End) → run ≡ get_or runs place run → place < length runs →
    made ≡ stepped_at runs place run.0 (stepped refused b run.1) → StepsAt refused b runs place made
at_place refused b runs place run made is within does =
    subst (λ (it : Option (ℕ × State)). IfSome it (λ it. made ≡ stepped_at runs place it.0 (stepped refused b it.1))) (sym (slice_get_read runs (length runs) place run refl within is)) does

pub step_on : (refused : Bool) (b left : PlainBook) (runs : List (ℕ × State)) (place : ℕ) (run : ℕ × State) (new : State) (end : Option End) → run ≡ get_or runs place run → place < length runs → (left, new, end) ≡ stepped refused b run.1 → is_some end ≡ false →
    StepsAt refused b runs place (left, slice_set runs place (run.0, new), end)
step_on refused b left runs place run new end is within does on =
    at_place refused b runs place run _ is within (goes_on left runs place run new end on ∙ ap (stepped_at runs place run.0) does)

pub step_off : (refused : Bool) (b left : PlainBook) (runs : List (ℕ × State)) (place : ℕ) (run : ℕ × State) (new : State) (end : Option End) → run ≡ get_or runs place run → place < length runs → (left, new, end) ≡ stepped refused b run.1 → is_some end ≡ true →
    StepsAt refused b runs place (left, remove (slice_set runs place (run.0, new)) place, end)
step_off refused b left runs place run new end is within does off =
    at_place refused b runs place run _ is within (goes_away left runs place run new end off ∙ ap (stepped_at runs place run.0) does)

pub all_open : (refused : Bool) (b : PlainBook) (runs : OpenRuns) (place : ℕ) (made : PlainBook × List (ℕ × State) × Option End) → StepsAt refused b runs.runs place made → RunStepsAt refused b runs place (with_open runs made)
all_open refused b runs place made does = IfSome_then (slice_get runs.runs place) does (λ run is. ap (with_open runs) is)

-- ---- the commands
pub no_such_run : (c : Console) (number : ℕ) → place_of number c.runs.runs ≡ None → RunGoes c (Step number) (c, Refused NoRun)
no_such_run c number e = record {
  course = course_of false;
  holds = tt;
  is = sym (ap (step_at c false number) (none_open number c.runs.runs e));
}

pub a_step : (c : Console) (left : PlainBook) (runs : OpenRuns) (number place : ℕ) (end : Option End) (refused : Bool) → place_of number c.runs.runs ≡ Some place →
    RunStepsAt refused c.book c.runs place (left, runs, end) → RunGoes c (Step number) (console_of left runs, step_answer number end)
a_step c left runs number place end refused e does =
    let it = stands_at number c.runs.runs place e in
    let made : (left, runs, end) ≡ run_stepped c.runs place number (stepped refused c.book it.run) =
    subst (λ (found : Option (ℕ × State)). IfSome found (λ run. (left, runs, end) ≡ run_stepped c.runs place run.0 (stepped refused c.book run.1))) it.there does in
    record {
      course = record { refused = false; verdict = no_verdict; wants = refused ∷ [] };
      holds = tt;
      is = ap (run_told number) made ∙ sym (ap (step_at c refused number) it.found);
    }

pub a_start : (c : Console) (frame : Frame) (command : RunCommand) (made : Console × Answer) → command ≡ Start frame → DoneUnlessRefused c (run_start c frame) made → RunGoes c command made
a_start c frame command made is does =
    subst (λ (it : RunCommand). RunGoes c it made) (sym is) (goes_plainly (λ course. ⊤) c (λ course. run_done c course.wants (Start frame)) made tt tt refl does)
