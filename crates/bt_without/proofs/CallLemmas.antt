-- How many calls of boxes taking a change out makes.
use Rattle.std.proofs.Common.{◌≡◌, ℕ, zero, suc, ◌+◌, ◌-◌, ◌<◌, ◌≤◌, ◌==◌, Bool, true, false, cond, List, [], ◌∷◌, ◌++◌, length, Result, Ok, Err, refl, sym, ◌∙◌, ap, subst, arith}
use Rattle.std.proofs.lemmas.List.{append_assoc}
use Rattle.host_state.specs.State.{State}
use Rattle.host_state.specs.Act.{act}
use Rattle.host_state.specs.Work.{CallsAtMost, walks, most_calls, after_change}
use Rattle.host_state.proofs.CallLemmas.{CallsLeft, within_none, within_both, made_more, made_within}
use Rattle.journal_model.specs.Replay.{Entry, replay, as_before}
use Rattle.journal_model.specs.Well.{EachPair, IsInOrder}
use Rattle.journal_model.proofs.Others.{Absent, absent_before}
use Rattle.journal_model.proofs.Replaying.{answers, went_on}
use Rattle.bt_journal.specs.After.{after, state_or, state_after}
use Rattle.bt_journal.specs.Alone.{is_alone}
use Rattle.bt_journal.specs.Calls.{Adds, Costs, calls_accepted, calls_refused, calls_again}
use Rattle.bt_journal.specs.Staged.{Staged, TurnsBack, DoesNext}
use Rattle.bt_journal.specs.StageCalls.{CallsToTurn, CostsNext, CallsToGoOn}
use Rattle.bt_journal.specs.AgainFault.{AgainFault}
use Rattle.bt_journal.proofs.CostLemmas.{changed_once}
use Rattle.journal_model.specs.declared.faults.WithoutFault.{WithoutFault}
use Rattle.bt_journal.specs.declared.taking.TakenOut.{TakenOut}
use Rattle.bt_without.specs.Calls.{calls_to_turn, calls_to_unwind, calls_without}
use Rattle.bt_without.specs.TakesOut.{serial_of}

-- ---- the states
went_after : (s t : State) (e : Entry) → as_before e (act s e.change) ≡ Ok t → after s e ≡ t
went_after s t e h = ap (state_or s) (answers s t e h)

same_end : (s t : State) → ◌≡◌ {A = Result State ℕ} (Ok s) (Ok t) → s ≡ t
same_end s t h = cc

replay_after_is : (s t : State) (es : List Entry) → replay s es ≡ Ok t → state_after s es ≡ t
replay_after_is s t [] h = same_end s t h
replay_after_is s t (e ∷ es) h =
    let first = went_on (as_before e (act s e.change)) (λ u. replay u es) t h in
    ap (λ u. state_after u es) (went_after s first.0 e first.1) ∙ replay_after_is first.0 t es first.2

-- ---- the one of the serial among them
calls_at : {A E : Type 0} (result : Result A E) (serial : ℕ) (s : State) (before : List Entry) (e : Entry) (later : List Entry) → Absent serial before → (e.serial == serial) ≡ true
    → calls_to_unwind result serial s (before ++ e ∷ later) ≡ calls_to_turn result (length later) + calls_again (state_after s before) later
calls_at result serial s [] e later absent is =
    ap (λ b. cond b (calls_to_turn result (length later) + calls_again s later) (calls_to_unwind result serial (after s e) later)) is
calls_at result serial s (x ∷ xs) e later absent is =
    let rest : List Entry = xs ++ e ∷ later in
    ap (λ b. cond b (calls_to_turn result (length rest) + calls_again s rest) (calls_to_unwind result serial (after s x) rest)) absent.0
    ∙ calls_at result serial (after s x) xs e later absent.1 is

-- ---- a change is done again
-- what is accepted makes no more calls than that
went_again : (A E : Type 0) (s : State) (e : Entry) (done : A) (old new : ℕ) → (let result : Result A E = Ok done in Costs s e.change result old new) → CallsAtMost (calls_accepted (walks s e.change) (most_calls s e.change)) old new
went_again A E s e done old new h = accepted (walks s e.change) (most_calls s e.change) h
  where
    accepted : (walking : Bool) (most : ℕ) → Adds walking most old (after_change e.change old) new → CallsAtMost (calls_accepted walking most) old new
    accepted false most h = changed_once e.change old new h
    accepted true most h = h

-- what is refused makes one more at most
refused_again : (A E : Type 0) (s : State) (e : Entry) (fault : E) (old new : ℕ) → (let result : Result A E = Err fault in Costs s e.change result old new) → CallsAtMost (calls_accepted (walks s e.change) (most_calls s e.change) + 1) old new
refused_again A E s e fault old new h = refused (walks s e.change) (most_calls s e.change) h
  where
    refused : (walking : Bool) (most : ℕ) → CallsAtMost (calls_refused walking most) old new → CallsAtMost (calls_accepted walking most + 1) old new
    refused false most h = h
    refused true most h = h

-- ---- the calls that are left
-- one more is turned back
pub more_turned : (begun : ℕ) (old new : Staged) → TurnsBack old false new → CallsToTurn old new → CallsAtMost (length old.left) begun old.line.work → CallsAtMost (length new.left) begun new.line.work
more_turned begun old new t turn h =
    within_both (length old.left) 1 _ _ old.line.work _ (omega (arith, ap length t.last.3)) h turn.made

pub more_to_restore : (old new : Staged) → TurnsBack old false new → CallsToTurn old new → old.to_restore ≡ length old.left → new.to_restore ≡ length new.left
more_to_restore old new t turn h = omega (arith, turn.to_restore, h, ap length t.last.3)

-- while they are done again: the calls that are left if all are accepted, and those if one is refused and all are put back
pub record IsAgain (base : State) (serial : ℕ) (force : List Entry) (s : Staged) (begun : ℕ) : Type 0 where
  pub kept : (taken : TakenOut) → let result : Result TakenOut WithoutFault = Ok taken in
      CallsLeft (calls_to_unwind result serial base force) (calls_again s.state s.left) begun s.line.work
  pub put_back : (fault : WithoutFault) → let result : Result TakenOut WithoutFault = Err fault in
      CallsLeft (calls_to_unwind result serial base force) (calls_again s.state s.left + (s.to_restore + length s.left)) begun s.line.work

-- the one is out
pub again_begins : (last serial : ℕ) (base : State) (old new : Staged) (force : List Entry) (begun : ℕ) → TurnsBack old true new → CallsToTurn old new → old.serial ≡ serial → old.in_place ++ old.left ≡ force → IsInOrder last force
    → replay base new.in_place ≡ Ok new.state → CallsAtMost (length old.left) begun old.line.work → old.to_restore ≡ length old.left → IsAgain base serial force new begun
again_begins last serial base old new force begun t turn q w order state made restore =
    let e : Entry = t.last.0 in
    let is : (e.serial == serial) ≡ true = ap (λ n. e.serial == n) (sym q) ∙ sym t.last.2 in
    let whole : force ≡ new.in_place ++ e ∷ old.left = sym w ∙ ap (λ xs. xs ++ old.left) t.last.1 ∙ append_assoc new.in_place (e ∷ []) old.left in
    let absent : Absent serial new.in_place = absent_before serial new.in_place e old.left is (subst (EachPair (λ (x y : Entry). x.serial < y.serial)) whole order.0) in
    let calls : (result : Result TakenOut WithoutFault) → calls_to_unwind result serial base force ≡ calls_to_turn result (length old.left) + calls_again new.state new.left =
    λ result. ap (calls_to_unwind result serial base) whole ∙ calls_at result serial base new.in_place e old.left absent is
    ∙ ap (λ s. calls_to_turn result (length old.left) + calls_again s old.left) (replay_after_is base new.state new.in_place state)
    ∙ ap (λ es. calls_to_turn result (length old.left) + calls_again new.state es) (sym t.last.3) in
    let left : length new.left ≡ length old.left = ap length t.last.3 in
    let turned : CallsAtMost (length old.left + 1) begun new.line.work = within_both (length old.left) 1 _ _ old.line.work _ (omega arith) made turn.made in
    record {
      kept = λ taken. (turned.0, omega (arith, calls (Ok taken), turned.1), turned.2);
      put_back = λ fault. (turned.0, omega (arith, calls (Err fault), turned.1, turn.to_restore, restore, left), turned.2);
    }

-- one more is done again
pub again_more : (base : State) (serial : ℕ) (force : List Entry) (old new : Staged) (done : Unit {0}) (begun : ℕ) → DoesNext old new → CallsToGoOn old (Ok done) new → IsAgain base serial force old begun → IsAgain base serial force new begun
again_more base serial force old new done begun t go h =
    let e : Entry = t.next.0 in
    let cost = subst (λ es. CostsNext old.state es (Ok done) old.line.work new.line.work) t.next.1 go.made in
    let here : ℕ = calls_accepted (walks old.state e.change) (most_calls old.state e.change) in
    let made : CallsAtMost here old.line.work new.line.work = went_again (Unit {0}) AgainFault old.state e done old.line.work new.line.work cost in
    let calls : calls_again old.state old.left ≡ here + calls_again new.state new.left =
    ap (calls_again old.state) t.next.1 ∙ ap (λ s. here + calls_again s new.left) (went_after old.state new.state e t.next.3) in
    record {
      kept = λ taken. made_more _ _ here _ _ _ _ calls (h.kept taken) made;
      put_back = λ fault. made_more _ _ here _ _ _ _ (omega (arith, calls, go.to_restore, ap length t.next.1)) (h.put_back fault) made;
    }

-- all are kept
pub again_kept : (base : State) (serial : ℕ) (force : List Entry) (s : Staged) (taken : TakenOut) (begun new : ℕ) → new ≡ s.line.work → IsAgain base serial force s begun
    → (let result : Result TakenOut WithoutFault = Ok taken in CallsAtMost (calls_to_unwind result serial base force) begun new)
again_kept base serial force s taken begun new is h = subst (λ n. let result : Result TakenOut WithoutFault = Ok taken in CallsAtMost (calls_to_unwind result serial base force) begun n) (sym is) (made_within _ _ _ _ _ (omega arith) (h.kept taken))

-- one is refused, and all are put back
pub again_refused : (base : State) (serial : ℕ) (force : List Entry) (old new : Staged) (again : AgainFault) (fault : WithoutFault) (begun back : ℕ) → 0 < length old.left → CallsToGoOn old (Err again) new → CallsAtMost new.to_restore new.line.work back → IsAgain base serial force old begun
    → (let result : Result TakenOut WithoutFault = Err fault in CallsAtMost (calls_to_unwind result serial base force) begun back)
again_refused base serial force old new again fault begun back some go restored h =
    first old.left refl some
  where
    first : (es : List Entry) → old.left ≡ es → 0 < length es → (let result : Result TakenOut WithoutFault = Err fault in CallsAtMost (calls_to_unwind result serial base force) begun back)
    first [] is some = absurd (omega (arith, some))
    first (e ∷ es) is some =
        let here : ℕ = calls_accepted (walks old.state e.change) (most_calls old.state e.change) in
        let cost = subst (λ xs. CostsNext old.state xs (Err again) old.line.work new.line.work) is go.made in
        let made : CallsAtMost (here + 1) old.line.work new.line.work = refused_again (Unit {0}) AgainFault old.state e again old.line.work new.line.work cost in
        let rest : ℕ = calls_again (after old.state e) es + length es in
        let calls : calls_again old.state old.left + (old.to_restore + length old.left) ≡ (here + 1) + (new.to_restore + rest) = omega (arith, ap (calls_again old.state) is, ap length is, go.to_restore) in
        made_within _ rest _ _ _ (omega arith) (made_more _ (new.to_restore + rest) new.to_restore rest _ _ _ refl (made_more _ _ (here + 1) (new.to_restore + rest) _ _ _ calls (h.put_back fault) made) restored)

-- ---- which of the two ways it is taken out
alone_or : {A E : Type 0} (result : Result A E) (serial : ℕ) (s : State) (es : List Entry) (b : Bool) → is_alone serial s es ≡ b → calls_without result serial s es ≡ cond b 1 (calls_to_unwind result serial s es)
alone_or result serial s es b is = ap (λ x. cond x 1 (calls_to_unwind result serial s es)) is

pub calls_alone : (result : Result TakenOut WithoutFault) (serial : ℕ) (s : State) (es : List Entry) (old new : ℕ) → is_alone serial s es ≡ true → CallsAtMost 1 old new → CallsAtMost (calls_without result serial s es) old new
calls_alone result serial s es old new is made = subst (λ n. CallsAtMost n old new) (sym (alone_or result serial s es true is)) made

pub calls_unwound : (result : Result TakenOut WithoutFault) (serial : ℕ) (s : State) (es : List Entry) (old new : ℕ) → is_alone serial s es ≡ false → CallsAtMost (calls_to_unwind result serial s es) old new → CallsAtMost (calls_without result serial s es) old new
calls_unwound result serial s es old new is made = subst (λ n. CallsAtMost n old new) (sym (alone_or result serial s es false is)) made

-- the stage begins with the work of the book, and to keep it makes no call
pub alone_at_most : (book old new kept : ℕ) → old ≡ book → kept ≡ new → CallsAtMost 1 old new → CallsAtMost 1 book kept
alone_at_most book old new kept begins no_call made = within_both 1 0 1 book new kept (omega arith) (within_both 0 1 1 book old new (omega arith) (within_none 0 book old begins) made) (within_none 0 new kept no_call)

-- what one call at most adds to the work
pub one_at_most : (old new taken : ℕ) → taken ≡ new - old → CallsAtMost 1 old new → taken ≤ 1
one_at_most old new taken is (zero, few, made) = omega (arith, is, made)
one_at_most old new taken is (suc zero, few, made) = omega (arith, is, made)
one_at_most old new taken is (suc (suc n), few, made) = absurd (omega (arith, few))

-- ---- a taking out told by its serial
unwinding_of_serial : (result : Result TakenOut WithoutFault) (serial : ℕ) (s : State) (es : List Entry) → calls_to_unwind (serial_of result) serial s es ≡ calls_to_unwind result serial s es
unwinding_of_serial result serial s [] = refl
unwinding_of_serial result serial s (e ∷ es) =
    ap (λ n. cond (e.serial == serial) (n + calls_again s es) (calls_to_unwind (serial_of result) serial (after s e) es)) (turned result (length es))
    ∙ ap (λ n. cond (e.serial == serial) (calls_to_turn result (length es) + calls_again s es) n) (unwinding_of_serial result serial (after s e) es)
  where
    turned : (result : Result TakenOut WithoutFault) (later : ℕ) → calls_to_turn (serial_of result) later ≡ calls_to_turn result later
    turned (Ok taken) later = refl
    turned (Err fault) later = refl

pub calls_of_serial : (result : Result TakenOut WithoutFault) (serial : ℕ) (s : State) (es : List Entry) → calls_without (serial_of result) serial s es ≡ calls_without result serial s es
calls_of_serial result serial s es = ap (λ n. cond (is_alone serial s es) 1 n) (unwinding_of_serial result serial s es)
