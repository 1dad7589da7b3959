-- One visit, from the ticket that it draws to the next one that it serves.
use Rattle.std.proofs.Common.{◌≡◌, ℕ, List, [], ◌∷◌, ◌++◌, map, Some, refl, ap, sym, ◌∙◌, subst, length, ◌+◌, ◌<◌, nat_eq}
use Rattle.std.specs.List.{IsDistinct}
use Rattle.thread_lock.specs.declared.rule.Kept.{Kept}
use Rattle.thread_lock.specs.declared.rule.View.{View}
use Rattle.thread_lock.specs.declared.turns.Turns.{Turns}
use Rattle.thread_lock.specs.declared.seat.Seat.{Seat}
use Rattle.thread_lock.specs.declared.sequential.Sequential.{Ghosts}
use Rattle.thread_lock.specs.History.{Leads, IsLegal, HasStep, own, entry}
use Rattle.thread_lock.specs.Rule.{Knows}
use Rattle.thread_lock.specs.Plays.{first_number, waiting_view, turn_view, idle_view, ServesVisit, HasVisited, Enters}
use Rattle.thread_lock.specs.Visits.{WorksOn, Visits}
use Rattle.thread_lock.specs.Seats.{opening, seen, numbers, number, calls_left, place_of, IsSeatOf, Visited}
use Rattle.thread_lock.proofs.Numbers.{has_first}
use Rattle.thread_lock.proofs.Histories.{leads_on, own_more}
use Rattle.thread_lock.proofs.Sitting.{Sits}

module _ {S E A : Type 0} (steps : S → E → A → S → Type 0) (s : S) (did : S → S → Type 0) where
  module _ (v : View S E A) (m n : Knows S E A) (opened : v.opening ≡ Some s) (enters : Enters steps v m) (works : WorksOn did m n) where
    -- the slot that the visit found is the one that the turn came with
    one_slot : works.before ≡ enters.kept
    one_slot = let heads = sym works.held ∙ ap (λ (x : Knows S E A). x.1) enters.is in let both : works.before ∷ [] ≡ enters.kept ∷ [] = ap (λ (l : List (ℕ × Kept S E A)). map (λ (x : ℕ × Kept S E A). x.1) l) heads in cc

    -- the seat as it is then
    abbrev entered_view : View S E A
    entered_view = turn_view (waiting_view v enters.ticket) enters.ticket (v.seen ++ enters.between)

    worked_view : n.0 ≡ entered_view
    worked_view = ap (λ (x : Knows S E A). x.0) works.is ∙ ap (λ (x : Knows S E A). x.0) enters.is

    found : Leads steps s (v.seen ++ enters.between) works.before.state
    found = subst (λ (x : Kept S E A). Leads steps s (v.seen ++ enters.between) x.state) (sym one_slot) (enters.leads s opened)

    further : (event : E) (answer : A) → steps works.before.state event answer works.after.state → Leads steps s ((v.seen ++ enters.between) ++ entry (first_number v.numbers) event answer ∷ []) works.after.state
    further event answer does = leads_on steps s works.before.state works.after.state (v.seen ++ enters.between) (entry (first_number v.numbers) event answer ∷ []) found (works.after.state, does, refl)

    pub has_visited : HasStep steps works.before.state works.after.state → HasVisited steps s n
    has_visited step = record {
      kept = works.after;
      event = step.0;
      answer = step.1;
      held = ap (λ (x : Knows S E A). x.1) works.is;
      does = subst (λ (x : S). steps x step.0 step.1 works.after.state) (sym works.noted) step.2;
      leads = subst (λ (x : View S E A). Leads steps s (x.seen ++ entry (first_number x.numbers) step.0 step.1 ∷ []) works.after.state) (sym worked_view) (further step.0 step.1 step.2);
    }

    pub visited : (m' : Knows S E A) → ServesVisit steps n m' → (m'.1 ≡ []) × Visits steps s did v m'.0
    visited m' serves =
        let it = serves works.after (ap (λ (x : Knows S E A). x.1) works.is) in
        let is : m' ≡ (idle_view entered_view (entry (first_number v.numbers) it.0 it.1), []) =
        it.3 ∙ ap (λ (x : View S E A). (idle_view x (entry (first_number x.numbers) it.0 it.1), [])) worked_view in (
          ap (λ (x : Knows S E A). x.1) is,
          record {
            between = enters.between;
            event = it.0;
            answer = it.1;
            before = works.before.state;
            after = works.after.state;
            seen = ap (λ (x : Knows S E A). x.0.seen) is;
            others = enters.others;
            found = found;
            does = subst (λ (x : S). steps x it.0 it.1 works.after.state) works.noted it.2;
            went = works.went;
            opening_is = ap (λ (x : Knows S E A). x.0.opening) is;
            numbers = ap (λ (x : Knows S E A). x.0.numbers) is;
            left = ap (λ (x : Knows S E A). x.0.left) is;
            stage = ap (λ (x : Knows S E A). x.0.stage) is;
          },
        )

  pub sits_visited : (v w : View S E A) → Sits steps s v → Visits steps s did v w → Sits steps s w
  sits_visited v w h t = record {
    opened = t.opening_is ∙ h.opened;
    legal = subst (IsLegal steps s) (sym t.seen) (t.after, leads_on steps s t.before t.after (v.seen ++ t.between) (entry (first_number v.numbers) t.event t.answer ∷ []) t.found (t.after, t.does, refl));
    some_number = subst (λ (l : List ℕ). 0 < length l) (sym t.numbers) h.some_number;
    distinct = subst (IsDistinct nat_eq) (sym t.numbers) h.distinct;
  }

-- ---- as callers see it
module _ {S E A : Type 0} {b : Ghosts S E A} (turns : Turns S E A) (did : S → S → Type 0) (old new : Seat S E A b) where
  pub visited_by : IsSeatOf turns old → Visits b.steps (opening turns) did old.place.me.0 new.place.me.0 → calls_left new + 1 ≡ calls_left old → place_of new ≡ length (seen new) → Visited turns did old new
  visited_by sits h less place = record {
    event = h.event;
    answer = h.answer;
    called = record {
      between = h.between;
      adds = h.seen;
      others = h.others;
      own_call = ap (λ (ns : List ℕ). own ns (seen new)) h.numbers ∙ own_more (numbers old) (seen old) h.between (seen new) (entry (number old) h.event h.answer) (has_first (numbers old) sits.numbered) h.others h.seen;
      same_numbers = h.numbers;
      one_less = less;
      its_place = place;
    };
    before = h.before;
    after = h.after;
    found = h.found;
    does = h.does;
    went = h.went;
  }
