-- One call, from the ticket that it draws to the next one that it serves.
use Rattle.std.proofs.Common.{◌≡◌, ℕ, List, [], ◌∷◌, ◌++◌, map, Some, refl, ap, sym, ◌∙◌, subst}
use Rattle.atomic_table.specs.Table.{rest}
use Rattle.thread_lock.specs.declared.rule.Kept.{Kept}
use Rattle.thread_lock.specs.declared.rule.View.{View}
use Rattle.thread_lock.specs.History.{Leads, IsLegal, own, entry}
use Rattle.thread_lock.specs.Rule.{Knows}
use Rattle.thread_lock.specs.Plays.{first_number, waiting_view, turn_view, idle_view, Draws, TakesTurn, Serves, Works, HasWorked, Enters, Steps}
use Rattle.thread_lock.proofs.Histories.{leads_on}

-- the seat has the slot, and what it is then left with
pub has_slot : {S E A : Type 0} (m : Knows S E A) (kept : Kept S E A) → m.1 ≡ (0, kept) ∷ [] → m.1 ≡ (0, kept) ∷ rest m.1
has_slot {S} {E} {A} m kept holds = holds ∙ ap (λ (l : List (ℕ × Kept S E A)). (0, kept) ∷ rest l) (sym holds)

module _ {S E A : Type 0} (steps : S → E → A → S → Type 0) where
  -- a ticket is drawn, and the turn comes
  pub entered : (m0 m1 m2 : Knows S E A) (t : ℕ) → m0.1 ≡ [] → Draws m0 t m1 → TakesTurn steps m1 t m2 → Enters steps m0.0 m2
  entered m0 m1 m2 t empty draws turn =
      let waits : m1 ≡ (waiting_view m0.0 t, []) = draws ∙ ap (λ (l : List (ℕ × Kept S E A)). (waiting_view m0.0 t, l)) empty in record {
        ticket = t;
        kept = turn.kept;
        between = turn.between;
        is = turn.is ∙ ap (λ (m : Knows S E A). (turn_view m.0 t (m.0.seen ++ turn.between), (0, turn.kept) ∷ m.1)) waits;
        others = subst (λ (m : Knows S E A). own m.0.numbers turn.between ≡ []) waits turn.others;
        leads = λ s opened. subst (λ (m : Knows S E A). Leads steps s (m.0.seen ++ turn.between) turn.kept.state) waits (turn.leads s (ap (λ (m : Knows S E A). m.0.opening) waits ∙ opened));
      }

  -- that is its one slot
  pub slot_entered : (v : View S E A) (m : Knows S E A) → Enters steps v m → (kept : Kept S E A) × (m.1 ≡ (0, kept) ∷ [])
  slot_entered v m enters = (enters.kept, ap (λ (x : Knows S E A). x.1) enters.is)

  module _ (v : View S E A) (m n : Knows S E A) (event : E) (answer : A) (enters : Enters steps v m) (works : Works steps m event answer n) where
    -- the slot that the call found is the one that the turn came with
    one_slot : works.before ≡ enters.kept
    one_slot = let heads = sym works.held ∙ ap (λ (x : Knows S E A). x.1) enters.is in let both : works.before ∷ [] ≡ enters.kept ∷ [] = ap (λ (l : List (ℕ × Kept S E A)). map (λ (x : ℕ × Kept S E A). x.1) l) heads in cc

    -- the seat as it is then
    worked_view : n.0 ≡ turn_view (waiting_view v enters.ticket) enters.ticket (v.seen ++ enters.between)
    worked_view = ap (λ (x : Knows S E A). x.0) works.is ∙ ap (λ (x : Knows S E A). x.0) enters.is

    -- the history with one call more leads to the state after it
    further : (s : S) → v.opening ≡ Some s → Leads steps s ((v.seen ++ enters.between) ++ entry (first_number v.numbers) event answer ∷ []) works.after.state
    further s opened =
        leads_on steps s enters.kept.state works.after.state (v.seen ++ enters.between) (entry (first_number v.numbers) event answer ∷ []) (enters.leads s opened)
        (works.after.state, subst (λ (x : Kept S E A). steps x.state event answer works.after.state) one_slot works.does, refl)

    pub has_worked : (s : S) → v.opening ≡ Some s → HasWorked steps s n
    has_worked s opened = record {
      kept = works.after;
      call = works.call;
      held = ap (λ (x : Knows S E A). x.1) works.is;
      noted = works.noted;
      leads = subst (λ (x : View S E A). Leads steps s (x.seen ++ entry (first_number x.numbers) works.call.event.value works.call.answer.value ∷ []) works.after.state) (sym worked_view)
          (subst (λ (e : E). Leads steps s ((v.seen ++ enters.between) ++ entry (first_number v.numbers) e works.call.answer.value ∷ []) works.after.state) (sym works.asked)
          (subst (λ (a : A). Leads steps s ((v.seen ++ enters.between) ++ entry (first_number v.numbers) event a ∷ []) works.after.state) (sym works.answered) (further s opened)));
    }

    -- the turn is given up
    rests : (m' : Knows S E A) → Serves n m' → m' ≡ (idle_view (turn_view (waiting_view v enters.ticket) enters.ticket (v.seen ++ enters.between)) (entry (first_number v.numbers) event answer), [])
    rests m' serves =
        serves works.after works.call (ap (λ (x : Knows S E A). x.1) works.is) works.noted
        ∙ (ap (λ (x : View S E A). (idle_view x (entry (first_number x.numbers) works.call.event.value works.call.answer.value), [])) worked_view
        ∙ (ap (λ (e : E). (idle_view (turn_view (waiting_view v enters.ticket) enters.ticket (v.seen ++ enters.between)) (entry (first_number v.numbers) e works.call.answer.value), [])) works.asked
        ∙ ap (λ (a : A). (idle_view (turn_view (waiting_view v enters.ticket) enters.ticket (v.seen ++ enters.between)) (entry (first_number v.numbers) event a), [])) works.answered))

    pub stepped : (m' : Knows S E A) → Serves n m' → (m'.1 ≡ []) × Steps steps v event answer m'.0
    stepped m' serves =
        let is = rests m' serves in (
          ap (λ (x : Knows S E A). x.1) is,
          record {
            between = enters.between;
            seen = ap (λ (x : Knows S E A). x.0.seen) is;
            others = enters.others;
            legal = λ s opened. subst (λ (x : Knows S E A). IsLegal steps s x.0.seen) (sym is) (works.after.state, further s opened);
            opening = ap (λ (x : Knows S E A). x.0.opening) is;
            numbers = ap (λ (x : Knows S E A). x.0.numbers) is;
            left = ap (λ (x : Knows S E A). x.0.left) is;
            stage = ap (λ (x : Knows S E A). x.0.stage) is;
          },
        )
