-- A look at the number served: if it is the seat's ticket, the seat takes the slot.
use Rattle.std.proofs.Common.{◌≡◌, ◌≢◌, ⊎_elim, inr, ℕ, ◌<◌, ◌≤◌, List, [], ◌∷◌, ◌++◌, set, get_or, Some, refl, ap, sym, ◌∙◌, subst, arith}
use Rattle.std.proofs.lemmas.List.{append-nil}
use mathlib.Core.Option.{some, none, some-injective}
use mathlib.Core.Option as maybe
use mathlib.Core.Logic.{dite}
use native.Mathlib.Decide.{ℕ_discrete}
use lib.ListN.{get_elem?}
use lib.Seq.{set-get_or}
use Rattle.atomic_table.specs.Table.{State, Act, keeps, takes, stepped, Valid, carried_after, Allows}
use Rattle.atomic_table.proofs.Lists.{set_again}
use Rattle.thread_lock.specs.declared.entry.Entry.{Entry}
use Rattle.thread_lock.specs.declared.rule.Kept.{Kept}
use Rattle.thread_lock.specs.declared.rule.Opening.{Opening}
use Rattle.thread_lock.specs.declared.rule.View.{View}
use Rattle.thread_lock.specs.declared.rule.Stage.TheVariants.{Waiting, Turn}
use Rattle.thread_lock.specs.History.{Leads}
use Rattle.thread_lock.specs.Rule.{Knows, is_numbered, ticket_of, Stands, Seats, Ruled}
use Rattle.thread_lock.specs.Plays.{turn_view, Looks}
use Rattle.thread_lock.proofs.Rows.{at_here, calls_set}
use Rattle.thread_lock.proofs.Seating.{renewed}
use Rattle.thread_lock.proofs.Steady.{loaded}

module _ {S E A : Type 0} (steps : S → E → A → S → Type 0) (k : Opening S) where
  abbrev key : S
  key = k.state.value

  module _ (s : State (Kept S E A) (View S E A)) (r : Ruled steps k s) (id t : ℕ) (me : Knows S E A) (stage : me.0.stage ≡ Waiting t) (at : get_elem? s.views id ≡ some me.0) where
    -- what a look has to give
    abbrev Given : Type 0
    Given = (w : View S E A) × (a : Act (Kept S E A)) × Valid s.homes me.1 a × Ruled steps k (stepped s 1 (get_or s.words 1 0) id me.1 w a)
        × Looks steps me (get_or s.words 1 0) (w, carried_after me.1 a)

    found : get_or s.words 1 0 ≡ r.served
    found = ap (λ (ws : List ℕ). get_or ws 1 0) r.words

    -- another ticket is served
    looks_past : r.served ≢ t → Given
    looks_past ne = (
      me.0,
      keeps,
      tt,
      loaded steps k s r id 1 me.0 me.0 at refl (λ h. h) (subst (Seats key r.log r.drawn r.served) (sym (set_again s.views id me.0 at)) r.seats),
      λ u h. ((λ _. refl), (λ e. absurd (ne (let same : t ≡ u = cc in sym found ∙ (e ∙ sym same))))),
    )

    -- the seat's ticket is served, and the slot is there
    looks_here : r.served ≡ t → (kept : Kept S E A) → kept.state ≡ r.state → s.homes ≡ some kept ∷ [] → Given
    looks_here is kept same home =
        let v = me.0 in
        let f = r.seats.each id v at in
        let seen : List (Entry E A) = v.seen ++ f.rest in
        let w : View S E A = turn_view v t seen in
        let stand : (r.served ≤ t) × (t < r.drawn) = subst (Stands r.log r.drawn r.served v.seen) stage f.stands in
        let below = stand.1 in (
          w,
          takes 0 kept,
          ap (λ (hs : List (maybe.Option (Kept S E A))). get_elem? hs 0) home,
          record {
            drawn = r.drawn;
            served = r.served;
            bell = r.bell;
            log = r.log;
            state = r.state;
            words = set-get_or s.words 1 0 ∙ r.words;
            behind = r.behind;
            room = let h = r.room in omega (arith, calls_set s.views id v w at);
            small = r.small;
            count = r.count;
            leads = r.leads;
            lies = inr (ap (λ (hs : List (maybe.Option (Kept S E A))). set hs 0 none) home, (id, w, at_here s.views id v w at, ap Turn (sym is)));
            seats = renewed key r.log r.log r.drawn r.drawn r.served r.served s.views id v w r.seats record {
              at = at;
              same_numbers = refl;
              same_taken = refl;
              same_stage = ap is_numbered (sym stage);
              others = λ j u ne e. r.seats.each j u e;
              mine = record { opening = f.opening; rest = []; seen = append-nil seen ∙ f.seen; others = refl; heard = f.heard; distinct = f.distinct; stands = (sym is, below, sym f.seen) };
              ticket = λ j n u ne e a b. ne (sym (r.seats.tickets id j n v u at e (ap ticket_of stage ∙ a) b));
              unused = r.seats.unused;
            };
          },
          λ u h. let mine : t ≡ u = cc in (
            (λ not. absurd (not (found ∙ (is ∙ mine)))),
            λ e. record {
              kept = kept;
              between = f.rest;
              is = ap (λ (n : ℕ). (turn_view v n seen, (0, kept) ∷ me.1)) mine;
              others = f.others;
              leads = λ o opened. subst (λ (x : S). Leads steps x seen kept.state) (sym (f.opening o opened))
                  (subst (λ (l : List (Entry E A)). Leads steps key l kept.state) (sym f.seen) (subst (Leads steps key r.log) (sym same) r.leads));
            },
          ),
        )

    -- no other seat has the slot, for it would have the same ticket
    looks_out : r.served ≡ t → (s.homes ≡ none ∷ []) × ((j : ℕ) × (u : View S E A) × (get_elem? s.views j ≡ some u) × (u.stage ≡ Turn r.served)) → Given
    looks_out is out =
        let mine : ticket_of me.0.stage ≡ Some r.served = ap ticket_of stage ∙ ap (λ (n : ℕ). Some n) (sym is) in
        let e : out.1.0 ≡ id = r.seats.tickets out.1.0 id r.served out.1.1 me.0 out.1.2 at (ap ticket_of out.1.3) mine in
        let same : out.1.1 ≡ me.0 = some-injective out.1.1 me.0 (sym out.1.2 ∙ (ap (get_elem? s.views) e ∙ at)) in
        let clash : Turn r.served ≡ Waiting t = sym out.1.3 ∙ (ap (λ (x : View S E A). x.stage) same ∙ stage) in absurd (cc)

  pub looks : (slots id t : ℕ) (me : Knows S E A) → me.0.stage ≡ Waiting t → Allows (Ruled steps k) slots id me 1 (λ n. n) (Looks steps me)
  looks slots id t me stage s r long at small = dite (ℕ_discrete r.served t)
      (λ is. ⊎_elim
      (λ (h : (kept : Kept S E A) × (kept.state ≡ r.state) × (s.homes ≡ some kept ∷ [])). looks_here s r id t me stage at is h.0 h.1 h.2)
      (λ (h : (s.homes ≡ none ∷ []) × ((j : ℕ) × (u : View S E A) × (get_elem? s.views j ≡ some u) × (u.stage ≡ Turn r.served))). looks_out s r id t me stage at is h) r.lies)
      (λ ne. looks_past s r id t me stage at ne)
