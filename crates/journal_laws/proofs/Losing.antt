-- A mark that was forgotten is told to be, until one of its name is made.
use Rattle.std.proofs.Common.{◌≡◌, ◌≢◌, ℕ, ◌-◌, Bool, true, false, cond, not, ◌||◌, List, [], ◌∷◌, ◌++◌, length, refl, sym, ◌∙◌, ap}
use Rattle.std.specs.Prelude.{nat_eq, nat_le, filter, Option, Some, None, Err, is_some}
use Rattle.std.specs.Cmp.Lexicographic.{pointwise, bytes_decides}
use Rattle.std.proofs.lemmas.List.Folds.{list_any-append}
use Rattle.journal_model.specs.declared.faults.UndoFault.TheVariants.{NoMark, MarkForgotten}
use Rattle.journal_model.specs.Plain.{newest_force}
use Rattle.journal_model.specs.Force.{without}
use Rattle.journal_model.specs.Marks.{Mark, moments_at, marks_from, names_below, is_among_names, without_name}
use Rattle.journal_model.specs.Book.{PlainBook, within_window, with_moment, back_to, undone_from, undone_to}
use Rattle.journal_model.specs.Without.{with_taken_out}
use Rattle.journal_model.specs.Run.{PlainEvent, PlainAnswer, Mark as MarkEvent, Given, bookstep, book_after}
use Rattle.journal_model.proofs.Cases.{step_cases}
use Rattle.journal_invariant.proofs.Windowed.{window_cases}
use Rattle.journal_laws.specs.Laws.{IsLastOfName, StaysForgotten}
use Rattle.journal_laws.proofs.Marking.{stood, stood_all, stood_from}

-- no mark of the name stands, and the name is among the forgotten
record IsLost (name : List ℕ) (b : PlainBook) : Type 0 where
  none : moments_at name b.marks ≡ None
  lost : is_among_names name b.forgotten_marks ≡ true

told_lost : (name : List ℕ) (b : PlainBook) → (undone_to b name).1 ≡ Err MarkForgotten → IsLost name b
told_lost name b told = by (moments_at name b.marks) (is_among_names name b.forgotten_marks) refl refl told
  where
    by : (o : Option ℕ) (lost : Bool) → moments_at name b.marks ≡ o → is_among_names name b.forgotten_marks ≡ lost → (undone_from b name o).1 ≡ Err MarkForgotten → IsLost name b
    by (Some count) lost n l e = cc
    by None true n l e = record { none = n; lost = l }
    by None false n l e = let other : Err NoMark ≡ (undone_from b name None).1 = ap (λ t. Err (cond t MarkForgotten NoMark)) (sym l) in cc

tells_lost : (name : List ℕ) (b : PlainBook) → IsLost name b → (undone_to b name).1 ≡ Err MarkForgotten
tells_lost name b l = ap (λ o. (undone_from b name o).1) l.none ∙ ap (λ t. Err (cond t MarkForgotten NoMark)) l.lost

-- ---- marks and names
still_none : (old new : Option ℕ) → (is_some new ≡ true → is_some old ≡ true) → old ≡ None → new ≡ None
still_none old None f e = refl
still_none old (Some n) f e = let missing : is_some old ≡ false = ap is_some e in let there : is_some old ≡ true = f refl in cc

among_others : (name other : List ℕ) → (other ≢ name) → (names : List (List ℕ)) → is_among_names name names ≡ true → is_among_names name (without_name other names) ≡ true
among_others name other differs [] e = e
among_others name other differs (x ∷ xs) e = by (pointwise nat_eq x other) (pointwise nat_eq x name) refl refl e (among_others name other differs xs)
  where
    rest : List (List ℕ)
    rest = without_name other xs

    by : (is_other is_name : Bool) → pointwise nat_eq x other ≡ is_other → pointwise nat_eq x name ≡ is_name → is_name || is_among_names name xs ≡ true
        → (is_among_names name xs ≡ true → is_among_names name rest ≡ true) → is_among_names name (cond (not is_other) (x ∷ rest) rest) ≡ true
    by true true o n f g = absurd (differs (sym ((bytes_decides x other).0 o) ∙ (bytes_decides x name).0 n))
    by true false o n f g = g f
    by false true o n f g = ap (λ t. t || is_among_names name rest) n
    by false false o n f g = ap (λ t. t || is_among_names name rest) n ∙ g f

-- ---- an event
-- the marks of a smaller number are forgotten, too
window_lost : (name : List ℕ) (c : PlainBook) → IsLost name c → IsLost name (within_window c)
window_lost name c l = window_cases (IsLost name) c (λ few. l) (λ many. record {
  none = still_none (moments_at name c.marks) (moments_at name (marks_from 1 c.marks)) (stood_from name 1 c.marks) l.none;
  lost = list_any-append (λ other. pointwise nat_eq other name) c.forgotten_marks (names_below 1 c.marks) ∙ ap (λ t. t || is_among_names name (names_below 1 c.marks)) l.lost;
})

step_lost : (name : List ℕ) (refused : Bool) (b : PlainBook) (event : PlainEvent) → event ≢ MarkEvent name → IsLost name b → IsLost name (bookstep refused b event).0
step_lost name refused b event differs l =
    let P : PlainBook × PlainAnswer → Type 0 = λ p. IsLost name p.0 in
    let back : (count : ℕ) → IsLost name (back_to b count) = λ count.
    record { none = still_none (moments_at name b.marks) (moments_at name (filter (λ (m : Mark). nat_le m.moments count) b.marks)) (stood_all name count b.marks) l.none; lost = l.lost } in
    step_cases P refused b event (record {
      stays = λ answer s i p. l;
      records = λ change s reply n acts room. window_lost name (with_moment b change (s, reply)) (record { none = l.none; lost = l.lost });
      serves = λ change s reply n acts maps progs room. window_lost name (with_moment b change (s, reply)) (record { none = l.none; lost = l.lost });
      marks = λ other is none.
          let apart : other ≢ name = λ same. differs (is ∙ ap MarkEvent same) in
          record {
            none = still_none (moments_at name b.marks) (moments_at name (b.marks ++ record { name = other; moments = length b.line.moments } ∷ [])) (stood name other (length b.line.moments) b.marks apart) l.none;
            lost = among_others name other apart b.forgotten_marks l.lost;
          };
      undoes = λ count. back count;
      undoes_last = λ any. back (length b.line.moments - 1);
      redoes = λ any. record { none = l.none; lost = l.lost };
      takes_out = λ serial s there r room. window_lost name (with_taken_out b serial (without serial (newest_force b.line.moments)) s) (record { none = l.none; lost = l.lost });
      forgets = λ other count is found none. record { none = still_none (moments_at name b.marks) (moments_at name (marks_from count b.marks)) (stood_from name count b.marks) l.none; lost = l.lost };
    })

run_lost : (name : List ℕ) (b : PlainBook) (events : List Given) → IsLastOfName name events → IsLost name b → IsLost name (book_after b events)
run_lost name b [] last l = l
run_lost name b (given ∷ rest) last l = run_lost name (bookstep given.0 b given.1).0 rest last.1 (step_lost name given.0 b given.1 last.0 l)

pub stays_forgotten : (b : PlainBook) (name : List ℕ) (events : List Given) → StaysForgotten b name events
stays_forgotten b name events told last = tells_lost name (book_after b events) (run_lost name b events last (told_lost name b told))
