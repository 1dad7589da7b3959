-- How many calls of boxes a timeline makes.
use Rattle.std.proofs.Common.{◌≡◌, ◌≤◌, ◌+◌, ◌-◌, ℕ, suc, Bool, true, false, List, [], ◌∷◌, ◌++◌, length, take, reverse, Option, Some, None, Result, Ok, refl, sym, ap, subst, ◌∙◌, arith, length-append}
use Rattle.std.proofs.lemmas.List.{length-reverse}
use Rattle.host_state.specs.State.{State}
use Rattle.host_state.specs.declared.change.Change.{Change}
use Rattle.host_state.specs.declared.change.Change.TheVariants.{Create, Operate, Freeze, Link, Load, Pin, Unpin, Attach, Detach}
use Rattle.host_undoing.specs.declared.undoing.Undoing.{Undoing}
use Rattle.host_state.specs.Work.{Works, CallsAtMost, after_change}
use Rattle.host_undoing.specs.Work.{after_turn}
use Rattle.host_state.proofs.CallLemmas.{within_none, within_one, within_both}
use Rattle.journal_model.specs.Replay.{Entry}
use Rattle.journal_model.specs.Plain.{Past, newest_force}
use Rattle.journal_moments.specs.Recorded.{Recorded}
use Rattle.journal_moments.specs.Calls.{calls_by, calls_to_swap, calls_back, calls_forth, Adds, calls_refused}
use Rattle.journal_moments.specs.Line.{entries, behind, swapped, Down, other_force, past, pasts_down, pasts_up}
use Rattle.journal_moments.specs.MomentView.{MomentView}
use Rattle.journal_moments.proofs.SwapLemmas.{entries-swapped}
use Rattle.journal_record.proofs.TurnLemmas.{turned_once}
use Rattle.journal_moments.specs.Held.{Held, base_of, pasts_of, Sound}
use Rattle.journal_moments.proofs.HeldLemmas.{pasts_is}
use Rattle.journal_moments.proofs.NewestLemmas.{force_down, force-pasts_of}
use Rattle.journal_moments.proofs.MoveLemmas.{GoesBack, GoesForth, moment_push}

-- ---- a moment is undone, or brought back
calls_by_more : (out : Option ℕ) (few more : ℕ) → few ≤ more → calls_by out few ≤ calls_by out more
calls_by_more None few more h = omega arith
calls_by_more (Some serial) few more h = h

length-entries : (rs : List Recorded) → length (entries rs) ≡ length rs
length-entries [] = refl
length-entries (r ∷ rs) = ap (λ n. suc n) (length-entries rs)

other_within : (es : List Entry) (m : MomentView) → length m.other ≤ length (other_force es m)
other_within es m =
    omega (arith, length-append (take m.at es) (entries (reverse m.other) ++ behind m.stays es), length-append (entries (reverse m.other)) (behind m.stays es), length-entries (reverse m.other), length-reverse m.other)

pub back_calls : (a b : Held) (m n : MomentView) → Sound a → GoesBack a b m n → calls_to_swap a.records m ≤ calls_back 1 (pasts_of a).moments
back_calls a b m n s g =
    let base : State = base_of a in
    let rs : List Recorded = a.records in
    let es : List Entry = entries rs in
    let ms : List MomentView = reverse b.moments in
    let below : List Past = pasts_down base (other_force es m) ms in
    let down : Down a.world.ready base rs a.room (m ∷ ms) = subst (Down a.world.ready base rs a.room) (moment_push a.moments b.moments m g.moments) s.down in
    let is : (pasts_of a).moments ≡ past base es m ∷ below = ap (λ p. p.moments) (pasts_is a) ∙ ap (pasts_down base es) (moment_push a.moments b.moments m g.moments) in
    let force : newest_force below ≡ other_force es m =
    ap (λ fs. newest_force (pasts_down base fs ms)) (sym (entries-swapped base rs m)) ∙ force_down a.world.ready base (swapped base rs m) a.room ms down.1 ∙ entries-swapped base rs m in
    let few : (length rs - (m.at + m.stays)) + length m.other ≤ length (newest_force below) + length es = omega (arith, ap length force, other_within es m, length-entries rs) in
    let all : calls_to_swap rs m ≤ calls_by m.out (length (newest_force below) + length es) = calls_by_more m.out _ _ few in
    subst (λ ps. calls_to_swap rs m ≤ calls_back 1 ps) (sym is) (omega (arith, all))

pub forth_calls : (a b : Held) (m n : MomentView) → Sound a → GoesForth a b m n → calls_to_swap a.records m ≤ calls_forth 1 (newest_force (pasts_of a).moments) (pasts_of a).undone
forth_calls a b m n s g =
    let base : State = base_of a in
    let rs : List Recorded = a.records in
    let es : List Entry = entries rs in
    let above : List Past = pasts_up base (other_force es m) b.undone in
    let is : (pasts_of a).undone ≡ past base (other_force es m) m ∷ above = ap (λ p. p.undone) (pasts_is a) ∙ ap (pasts_up base es) g.undone in
    let few : (length rs - (m.at + m.stays)) + length m.other ≤ length es + length (other_force es m) = omega (arith, other_within es m, length-entries rs) in
    let all : calls_to_swap rs m ≤ calls_by m.out (length es + length (other_force es m)) = calls_by_more m.out _ _ few in
    subst (λ ps. calls_to_swap rs m ≤ calls_forth 1 (newest_force (pasts_of a).moments) ps) (sym is)
    (subst (λ fs. calls_to_swap rs m ≤ calls_forth 1 fs (past base (other_force es m) m ∷ above)) (sym (force-pasts_of a s)) (omega (arith, all)))

-- ---- a change is recorded
pub changed_once : (change : Change) (old new : ℕ) → new ≡ after_change change old → CallsAtMost 1 old new
changed_once (Create id attr charge name path template) old new is = within_none 1 old new is
changed_once (Operate origin id op) old new is = within_one 1 old new (omega arith) is
changed_once (Freeze id) old new is = within_none 1 old new is
changed_once (Link id key named flag) old new is = within_one 1 old new (omega arith) is
changed_once (Load id code name path) old new is = within_none 1 old new is
changed_once (Pin target path) old new is = within_none 1 old new is
changed_once (Unpin path) old new is = within_none 1 old new is
changed_once (Attach prog device overwrite) old new is = within_none 1 old new is
changed_once (Detach device) old new is = within_none 1 old new is

pub work_accepted : (A E : Type 0) (walking : Bool) (most old all new : ℕ) (done : A) → (let result : Result A E = Ok done in Works walking most result old all new) → Adds walking most old all new
work_accepted A E false most old all new done h = h
work_accepted A E true most old all new done h = h

pub work_taken_back : (change : Change) (walking : Bool) (most old middle new : ℕ) (u : Undoing) → Adds walking most old (after_change change old) middle → new ≡ after_turn u middle → CallsAtMost (calls_refused walking most) old new
work_taken_back change false most old middle new u h is = within_both 1 1 _ _ middle _ (omega arith) (changed_once change old middle h) (turned_once u middle new is)
work_taken_back change true most old middle new u h is = within_both most 1 _ _ middle _ (omega arith) h (turned_once u middle new is)
