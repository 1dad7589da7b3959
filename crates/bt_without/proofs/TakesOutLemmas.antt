-- The changes in force but one, and doing them again one after the other.
use Rattle.std.proofs.Common.{◌≡◌, ◌⊎◌, inl, inr, ℕ, ◌+◌, ◌<◌, ◌==◌, ◌||◌, Bool, true, false, not, cond, List, [], ◌∷◌, ◌++◌, length, Option, Some, None, Result, Ok, Err, refl, sym, ◌∙◌, ap, subst, arith}
use Rattle.std.proofs.lemmas.List.{append_assoc, append-nil}
use Rattle.host_state.specs.State.{State}
use Rattle.host_state.specs.Act.{act}
use Rattle.journal_model.specs.declared.faults.WithoutFault.{WithoutFault}
use Rattle.journal_model.specs.declared.faults.WithoutFault.TheVariants.{NotInForce, SerialsSpent, JournalFull, DependsOn, NoMemory}
use Rattle.journal_model.specs.Replay.{Entry, replay, go_on, as_before}
use Rattle.journal_model.specs.Plain.{newest_force}
use Rattle.journal_model.specs.Book.{PlainBook, within_window, OrNoMemory}
use Rattle.journal_model.specs.Well.{EachPair, IsInOrder, IsWellBook}
use Rattle.journal_model.specs.Without.{without_fault, with_taken_out, taken_out, taken_out_as, taken_out_unless}
use Rattle.journal_model.specs.Force.{is_in_force, without}
use Rattle.journal_model.proofs.Others.{Absent, without-middle, absent_before}
use Rattle.journal_model.proofs.Replaying.{replay_after}
use Rattle.journal_laws.specs.Headline.{IsOutcome}
use Rattle.journal_laws.proofs.Alone.{takes_one_out_after}
use Rattle.bt_journal.specs.Staged.{Staged, TurnsBack, DoesNext}
use Rattle.bt_without.specs.TakesOut.{HasOutcome}

in_force-absent : (s : ℕ) (es : List Entry) → Absent s es → is_in_force s es ≡ false
in_force-absent s [] h = refl
in_force-absent s (e ∷ es) h = ap (λ b. b || is_in_force s es) h.0 ∙ in_force-absent s es h.1

-- the one is still in place
pub some_in_place : (s : ℕ) (xs ys force : List Entry) → xs ++ ys ≡ force → Absent s ys → is_in_force s force ≡ true → 0 < length xs
some_in_place s [] ys force e h k = cc (sym (in_force-absent s ys h) ∙ ap (is_in_force s) e ∙ k)
some_in_place s (x ∷ xs) ys force e h k = omega arith

is_there : (b : Bool) (x : Option WithoutFault) → cond (not b) (Some NotInForce) x ≡ None → b ≡ true
is_there true x h = refl
is_there false x h = cc

pub was_in_force : (b : PlainBook) (s : ℕ) → without_fault b s ≡ None → is_in_force s (newest_force b.line.moments) ≡ true
was_in_force b s h = is_there (is_in_force s (newest_force b.line.moments)) _ h

-- one that is turned back and is not it
pub absent_more : (old new : Staged) (s : ℕ) → TurnsBack old false new → old.serial ≡ s → Absent s old.left → Absent s new.left
absent_more old new s t q h =
    subst (Absent s) (sym t.last.3) (ap (λ n. t.last.0.serial == n) (sym q) ∙ sym t.last.2, h)

pub whole_back : (old new : Staged) → TurnsBack old false new → new.in_place ++ new.left ≡ old.in_place ++ old.left
whole_back old new t =
    ap (λ xs. new.in_place ++ xs) t.last.3 ∙ sym (ap (λ xs. xs ++ old.left) t.last.1 ∙ append_assoc new.in_place (t.last.0 ∷ []) old.left)

-- the one dropped out: what is in place and what is left are the others
pub others : (last s : ℕ) (old new : Staged) (force : List Entry) → TurnsBack old true new → old.serial ≡ s → old.in_place ++ old.left ≡ force → Absent s old.left → IsInOrder last force → new.in_place ++ new.left ≡ without s force
others last s old new force t q w h k =
    let e : Entry = t.last.0 in
    let is : (e.serial == s) ≡ true = ap (λ n. e.serial == n) (sym q) ∙ sym t.last.2 in
    let whole : force ≡ new.in_place ++ e ∷ old.left = sym w ∙ ap (λ xs. xs ++ old.left) t.last.1 ∙ append_assoc new.in_place (e ∷ []) old.left in
    ap (λ xs. new.in_place ++ xs) t.last.3
    ∙ sym (ap (without s) whole ∙ without-middle s new.in_place e old.left is (absent_before s new.in_place e old.left is (subst (EachPair (λ (x y : Entry). x.serial < y.serial)) whole k.0)) h)

-- ---- doing them again
-- one more is done again
pub replay_next : (base : State) (old new : Staged) → DoesNext old new → replay base old.in_place ≡ Ok old.state → replay base new.in_place ≡ Ok new.state
replay_next base old new t h =
    ap (replay base) t.next.2 ∙ replay_after base old.state old.in_place (t.next.0 ∷ []) h ∙ ap (λ r. go_on r (λ u. replay u [])) t.next.3

pub whole_next : (old new : Staged) → DoesNext old new → new.in_place ++ new.left ≡ old.in_place ++ old.left
whole_next old new t =
    ap (λ xs. xs ++ new.left) t.next.2 ∙ append_assoc old.in_place (t.next.0 ∷ []) new.left ∙ ap (λ xs. old.in_place ++ xs) (sym t.next.1)

taken_is : (b : PlainBook) (s : ℕ) → without_fault b s ≡ None → taken_out b s ≡ taken_out_as b s (without s (newest_force b.line.moments)) (replay b.line.base (without s (newest_force b.line.moments)))
taken_is b s h = ap (λ o. taken_out_unless o b s) h

-- what refuses it before anything is tried
pub taken_fault : (b : PlainBook) (s : ℕ) (fault : WithoutFault) → without_fault b s ≡ Some fault → (b, Err fault) ≡ taken_out b s
taken_fault b s fault h = sym (ap (λ o. taken_out_unless o b s) h)

-- all were done again
pub taken_ok : (b new : PlainBook) (s serial n : ℕ) (force left : List Entry) (state : State) → without_fault b s ≡ None → serial ≡ s → force ++ left ≡ without s (newest_force b.line.moments) → left ≡ [] → replay b.line.base force ≡ Ok state
    → new ≡ within_window (with_taken_out b serial force state) → n ≡ b.last_serial + 1 → ◌≡◌ {A = PlainBook × Result ℕ WithoutFault} (new, Ok n) (taken_out b s)
taken_ok b new s serial n force left state f q w l r is m =
    let all : force ≡ without s (newest_force b.line.moments) = sym (append-nil force) ∙ ap (λ xs. force ++ xs) (sym l) ∙ w in
    ap (λ x. let p : PlainBook × Result ℕ WithoutFault = (x, Ok n) in p) (is ∙ ap (λ i. within_window (with_taken_out b i force state)) q)
    ∙ ap (λ k. let p : PlainBook × Result ℕ WithoutFault = (within_window (with_taken_out b s force state), Ok k) in p) m
    ∙ sym (taken_is b s f ∙ ap (λ xs. taken_out_as b s xs (replay b.line.base xs)) (sym all) ∙ ap (taken_out_as b s force) r)

-- one answers otherwise
pub taken_err : (b new : PlainBook) (s first : ℕ) (force left : List Entry) (state : State) (e : Entry) (rest : List Entry) → without_fault b s ≡ None → force ++ left ≡ without s (newest_force b.line.moments) → replay b.line.base force ≡ Ok state
    → left ≡ e ∷ rest → as_before e (act state e.change) ≡ Err first → new ≡ b → ◌≡◌ {A = PlainBook × Result ℕ WithoutFault} (new, Err (DependsOn first)) (taken_out b s)
taken_err b new s first force left state e rest f w r l a is =
    let fails : replay b.line.base (without s (newest_force b.line.moments)) ≡ Err first =
    ap (replay b.line.base) (sym w ∙ ap (λ xs. force ++ xs) l) ∙ replay_after b.line.base state force (e ∷ rest) r ∙ ap (λ x. go_on x (λ t. replay t rest)) a in
    ap (λ x. let p : PlainBook × Result ℕ WithoutFault = (x, Err (DependsOn first)) in p) is
    ∙ sym (taken_is b s f ∙ ap (taken_out_as b s (without s (newest_force b.line.moments))) fails)

-- it was refused before anything was tried
pub refused : (b new : PlainBook) (s : ℕ) (fault : WithoutFault) → new ≡ b → (fault ≡ NoMemory) ⊎ (without_fault b s ≡ Some fault) → OrNoMemory b NoMemory (taken_out b s) (new, Err fault)
refused b new s fault e (inl n) =
    (true, ap (λ x. let p : PlainBook × Result ℕ WithoutFault = (x, Err fault) in p) e ∙ ap (λ f. let p : PlainBook × Result ℕ WithoutFault = (b, Err f) in p) n)
refused b new s fault e (inr f) = (false, ap (λ x. let p : PlainBook × Result ℕ WithoutFault = (x, Err fault) in p) e ∙ taken_fault b s fault f)

-- ---- the headline
no_other : (b c : PlainBook) (serial : ℕ) (outcome : Result ℕ WithoutFault) → IsOutcome b serial c outcome → HasOutcome b serial c outcome
no_other b c serial (Ok own) h = h
no_other b c serial (Err NoMemory) h = h.0
no_other b c serial (Err NotInForce) h = h
no_other b c serial (Err SerialsSpent) h = h
no_other b c serial (Err JournalFull) h = h
no_other b c serial (Err (DependsOn first)) h = h

pub has_outcome : (b c : PlainBook) (serial : ℕ) (outcome : Result ℕ WithoutFault) → IsWellBook b → OrNoMemory b NoMemory (taken_out b serial) (c, outcome) → HasOutcome b serial c outcome
has_outcome b c serial outcome w (true, e) = subst (λ (x : PlainBook × Result ℕ WithoutFault). HasOutcome b serial x.0 x.1) (sym e) refl
has_outcome b c serial outcome w (false, e) =
    subst (λ (x : PlainBook × Result ℕ WithoutFault). HasOutcome b serial x.0 x.1) (sym e)
    (no_other b (taken_out b serial).0 serial (taken_out b serial).1 (takes_one_out_after b [] serial w))
