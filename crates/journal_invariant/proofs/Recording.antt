-- Each moment that an event adds has a serial above all that were given before.
use Rattle.std.proofs.Common.{inl, inr, ℕ, ◌+◌, ◌-◌, ◌<◌, ◌≤◌, Bool, List, [], ◌∷◌, ◌++◌, length, take, reverse, refl, sym, ◌∙◌, ap, subst, arith}
use Rattle.std.proofs.lemmas.List.{append_assoc, take-append-drop}
use Rattle.journal_model.specs.Force.{without}
use Rattle.journal_model.specs.Plain.{Past, Pasts, newest_force}
use Rattle.journal_model.specs.Book.{PlainBook, within_window, with_moment}
use Rattle.journal_model.specs.Without.{with_taken_out}
use Rattle.journal_model.specs.Forget.{based_at}
use Rattle.journal_model.specs.Run.{PlainEvent, PlainAnswer, Given, bookstep, book_after}
use Rattle.journal_model.specs.Well.{Each, OneOf, all_moments, IsWellMoment, IsWellBook}
use Rattle.journal_invariant.specs.Laws.{IsStill, StoodOrIsNew, EventsRise}
use Rattle.journal_model.proofs.Cases.{step_cases}
use Rattle.journal_model.proofs.Lists.{Each-map, Each-front, Each-rest, Each-each}
use Rattle.journal_invariant.proofs.Advanced.{earlier, later, taken_in, on_base, parts, all_advanced}
use Rattle.journal_invariant.proofs.Staying.{moved_all, brought_all}
use Rattle.journal_invariant.proofs.Events.{stays_well}
use Rattle.journal_invariant.proofs.Windowed.{window_cases}

-- ---- a moment that is still the old one
abbrev StoodAmong : List Past → Past → Type 0
StoodAmong ms m = OneOf (λ (old : Past). IsStill old m) ms

each_stands : (ms : List Past) → Each (StoodAmong ms) ms
each_stands [] = tt
each_stands (m ∷ ms) = (inl (record { serial = refl; out = refl; based = []; force = refl }), Each-map (StoodAmong ms) (StoodAmong (m ∷ ms)) ms (λ x one. inr one) (each_stands ms))

still : (ms : List Past) (x m : Past) → IsStill x m → StoodAmong ms x → StoodAmong ms m
still [] x m s one = absurd one
still (old ∷ ms) x m s (inl here) = inl (record {
  serial = s.serial ∙ here.serial;
  out = s.out ∙ here.out;
  based = here.based ++ s.based;
  force = here.force ∙ ap (λ es. here.based ++ es) s.force ∙ sym (append_assoc here.based s.based m.force);
})
still (old ∷ ms) x m s (inr further) = inr (still ms x m s further)

-- a moment on a new base
rebased : (b : PlainBook) (count : ℕ) (p : Pasts) (m : Past) → StoodOrIsNew b m → StoodOrIsNew b (on_base count p m)
rebased b count p m (inl one) =
    let gone : ℕ = length (taken_in count p) in
    inl (still (all_moments b.line) m (on_base count p m) (record { serial = refl; out = refl; based = take gone m.force; force = sym (take-append-drop gone m.force) }) one)
rebased b count p m (inr above) = inr above

-- ---- later books
-- what was given stays given, and each moment of the later book stood or is new
record Rose (b c : PlainBook) : Type 0 where
  last : b.last_serial ≤ c.last_serial
  moments : Each (StoodOrIsNew b) (all_moments c.line)

itself : (b : PlainBook) → Rose b b
itself b = record {
  last = omega arith;
  moments = Each-map (StoodAmong (all_moments b.line)) (StoodOrIsNew b) (all_moments b.line) (λ m one. inl one) (each_stands (all_moments b.line));
}

-- also if the past before a number of moments joined the base
based_rose : (b c : PlainBook) → Rose b c → (count : ℕ) → Rose b (based_at c count)
based_rose b c r count = record {
  last = r.last;
  moments = subst (Each (StoodOrIsNew b)) (sym (all_advanced count c.line))
      (Each-each (StoodOrIsNew b) (on_base count c.line) (later count c.line)
      (Each-map (StoodOrIsNew b) (λ m. StoodOrIsNew b (on_base count c.line m)) (later count c.line) (rebased b count c.line)
      (Each-front (StoodOrIsNew b) (later count c.line) (earlier count c.line) (subst (Each (StoodOrIsNew b)) (parts count c.line) r.moments))));
}

window_rose : (b c : PlainBook) → Rose b c → Rose b (within_window c)
window_rose b c r = window_cases (Rose b) c (λ short. r) (λ long. let based : Rose b (based_at c 1) = based_rose b c r 1 in record { last = based.last; moments = based.moments })

step_rose : (b c : PlainBook) → Rose b c → (refused : Bool) (event : PlainEvent) → Rose b (bookstep refused c event).0
step_rose b c r refused event =
    let P : PlainBook × PlainAnswer → Type 0 = λ p. Rose b p.0 in
    let in_force : Each (StoodOrIsNew b) c.line.moments = Each-rest (StoodOrIsNew b) (reverse c.line.undone) c.line.moments r.moments in
    let more : b.last_serial ≤ c.last_serial + 1 = omega (arith, r.last) in
    let above : b.last_serial < c.last_serial + 1 = omega (arith, r.last) in
    step_cases P refused c event (record {
      stays = λ answer s i p. r;
      records = λ change s reply n acts room. window_rose b (with_moment c change (s, reply)) (record { last = more; moments = (inr above, in_force) });
      serves = λ change s reply n acts maps progs room. window_rose b (with_moment c change (s, reply)) (record { last = more; moments = (inr above, in_force) });
      marks = λ name is none. record { last = r.last; moments = r.moments };
      undoes = λ count. record { last = r.last; moments = subst (Each (StoodOrIsNew b)) (sym (moved_all count c.line)) r.moments };
      undoes_last = λ any. record { last = r.last; moments = subst (Each (StoodOrIsNew b)) (sym (moved_all (length c.line.moments - 1) c.line)) r.moments };
      redoes = λ any. record { last = r.last; moments = subst (Each (StoodOrIsNew b)) (sym (brought_all c.line)) r.moments };
      takes_out = λ serial s there replayed room. window_rose b (with_taken_out c serial (without serial (newest_force c.line.moments)) s) (record { last = more; moments = (inr above, in_force) });
      forgets = λ name count is found none. based_rose b c r count;
    })

rose : (b c : PlainBook) → Rose b c → (events : List Given) → Rose b (book_after c events)
rose b c r [] = r
rose b c r (given ∷ rest) = rose b (bookstep given.0 c given.1).0 (step_rose b c r given.0 given.1) rest

pub events_rise : (b : PlainBook) (events : List Given) → EventsRise b events
events_rise b events =
    let r : Rose b (book_after b events) = rose b b (itself b) events in
    record {
      last = r.last;
      moments = r.moments;
      rising = λ w. (stays_well b events w).rising;
      given = λ w. let later_well : IsWellBook (book_after b events) = stays_well b events w in
          Each-map (IsWellMoment (book_after b events)) (λ (m : Past). m.serial ≤ (book_after b events).last_serial) (all_moments (book_after b events).line) (λ m wm. wm.given) later_well.moments;
    }
