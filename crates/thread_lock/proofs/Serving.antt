-- The addition that serves the next ticket: the slot is given back, and the call enters the history.
use Rattle.std.proofs.Common.{◌≡◌, ◌≢◌, ⊎_elim, inl, ℕ, ◌<◌, ◌+◌, ◌%◌, ◌^◌, true, false, List, [], ◌∷◌, ◌++◌, length, set, get_or, Some, refl, ap, sym, ◌∙◌, subst, arith, append_assoc, length-append}
use Rattle.std.proofs.lemmas.List.{append-nil}
use mathlib.Core.Option.{some, none}
use mathlib.Core.Option as maybe
use lib.ListN.{get_elem?}
use Rattle.atomic_table.specs.Table.{gives, Allows}
use Rattle.thread_lock.specs.declared.turns.TheConstants.{MOST_CALLS}
use Rattle.thread_lock.specs.declared.entry.Entry.{Entry}
use Rattle.thread_lock.specs.declared.rule.Kept.{Kept}
use Rattle.thread_lock.specs.declared.rule.Last.{Last}
use Rattle.thread_lock.specs.declared.rule.Opening.{Opening}
use Rattle.thread_lock.specs.declared.rule.View.{View}
use Rattle.thread_lock.specs.declared.rule.Stage.{Stage}
use Rattle.thread_lock.specs.declared.rule.Stage.TheVariants.{New, Idle, Waiting, Turn}
use Rattle.thread_lock.specs.History.{Leads, has, entry}
use Rattle.thread_lock.specs.Rule.{Knows, is_numbered, ticket_of, is_number, Stands, Lies, Ruled}
use Rattle.thread_lock.specs.Plays.{first_number, idle_view, Serves, ServesAt, ServesVisit, ServesVisitAt, HasWorked, HasVisited}
use Rattle.thread_lock.proofs.Prefixes.{prefix_more}
use Rattle.thread_lock.proofs.Words.{one_more}
use Rattle.thread_lock.proofs.Numbers.{has_one, has_first, not_true}
use Rattle.thread_lock.proofs.Histories.{own_none, own_not}
use Rattle.thread_lock.proofs.Rows.{calls_set}
use Rattle.thread_lock.proofs.Seating.{renewed}

-- a seat stands where it stood, when a ticket is served that is not its own
stands_served : {E A : Type 0} (log more seen : List (Entry E A)) (drawn served : ℕ) (st : Stage) → (ticket_of st ≡ Some served → ⊥) → Stands log drawn served seen st → Stands (log ++ more) drawn (served + 1) seen st
stands_served log more seen drawn served New not h = tt
stands_served log more seen drawn served Idle not h = tt
stands_served log more seen drawn served (Waiting u) not h =
    let ne : u ≢ served = λ (e : u ≡ served). not (ap (λ (x : ℕ). Some x) e) in let a = h.0 in (omega arith, h.1)
stands_served log more seen drawn served (Turn u) not h = absurd (not (ap (λ (x : ℕ). Some x) h.0))

module _ {S E A : Type 0} where
  abbrev first_or : Kept S E A → List (ℕ × Kept S E A) → Kept S E A
  first_or d [] = d
  first_or d (x ∷ xs) = x.1

  slot_back : (state : S) (served : ℕ) (homes : List (maybe.Option (Kept S E A))) (vs : List (View S E A)) (x : Kept S E A) → Lies state served homes vs → set homes 0 (some x) ≡ some x ∷ []
  slot_back state served homes vs x l = ⊎_elim
      (λ (h : (kept : Kept S E A) × (kept.state ≡ state) × (homes ≡ some kept ∷ [])). ap (λ (hs : List (maybe.Option (Kept S E A))). set hs 0 (some x)) h.2)
      (λ (h : (homes ≡ none ∷ []) × ((j : ℕ) × (u : View S E A) × (get_elem? vs j ≡ some u) × (u.stage ≡ Turn served))). ap (λ (hs : List (maybe.Option (Kept S E A))). set hs 0 (some x)) h.0) l

module _ {S E A : Type 0} (steps : S → E → A → S → Type 0) (k : Opening S) where
  abbrev key : S
  key = k.state.value

  -- a call that leads to the state in the slot enters the history, whatever is told of it
  serves_by : (slots id t : ℕ) (v : View S E A) (kept : Kept S E A) (event : E) (answer : A) (Tells : Knows S E A → Type 0) → v.stage ≡ Turn t → 0 < length v.numbers
      → Leads steps key (v.seen ++ entry (first_number v.numbers) event answer ∷ []) kept.state
      → Tells (idle_view v (entry (first_number v.numbers) event answer), [])
      → Allows (Ruled steps k) slots id (v, (0, kept) ∷ []) 1 (λ n. (n + 1) % 2 ^ 64) (λ n m'. Tells m' × (n ≡ length v.seen) × (n < MOST_CALLS))
  serves_by slots id t v kept event answer Tells stage some_number leads tells s r long at small =
      let e : Entry E A = entry (first_number v.numbers) event answer in
      let w : View S E A = idle_view v e in
      let f = r.seats.each id v at in
      let own_number = has_first v.numbers some_number in
      let stand : (t ≡ r.served) × (t < r.drawn) × (r.log ≡ v.seen) = subst (Stands r.log r.drawn r.served v.seen) stage f.stands in
      let is = stand.0 in
      let below = stand.1 in
      let whole : v.seen ++ e ∷ [] ≡ r.log ++ e ∷ [] = ap (λ (l : List (Entry E A)). l ++ e ∷ []) (sym stand.2) in
      let mine : ticket_of v.stage ≡ Some r.served = ap ticket_of stage ∙ ap (λ (n : ℕ). Some n) is in
      let found : get_or s.words 1 0 ≡ r.served = ap (λ (ws : List ℕ). get_or ws 1 0) r.words in
      let room = r.room in
      let bound = r.small in
      let next : (get_or s.words 1 0 + 1) % 2 ^ 64 ≡ r.served + 1 = ap (λ (n : ℕ). (n + 1) % 2 ^ 64) found ∙ one_more r.served (omega arith) in (
        w,
        gives,
        tt,
        record {
          drawn = r.drawn;
          served = r.served + 1;
          bell = r.bell;
          log = r.log ++ e ∷ [];
          state = kept.state;
          words = λ i. set (r.words i) 1 (next i);
          behind = omega arith;
          room = omega (arith, calls_set s.views id v w at);
          small = r.small;
          count = omega (arith, length-append r.log (e ∷ []), r.count);
          leads = subst (λ (l : List (Entry E A)). Leads steps key l kept.state) whole leads;
          lies = inl (kept, refl, slot_back r.state r.served s.homes s.views kept r.lies);
          seats = renewed key r.log (r.log ++ e ∷ []) r.drawn r.drawn r.served (r.served + 1) s.views id v w r.seats record {
            at = at;
            same_numbers = refl;
            same_taken = refl;
            same_stage = ap is_numbered (sym stage);
            others = λ j u ne h.
                let g = r.seats.each j u h in
                let not_by : has u.numbers e.by ≡ false = not_true (has u.numbers e.by) (λ y. ne (r.seats.numbers j id e.by u v h at y own_number)) in record {
                  opening = g.opening;
                  rest = g.rest ++ e ∷ [];
                  seen = sym (append_assoc u.seen g.rest (e ∷ [])) ∙ ap (λ (l : List (Entry E A)). l ++ e ∷ []) g.seen;
                  others = own_none u.numbers g.rest (e ∷ []) g.others (own_not u.numbers e not_by);
                  heard = prefix_more u.heard r.log (e ∷ []) g.heard;
                  distinct = g.distinct;
                  stands = stands_served r.log (e ∷ []) u.seen r.drawn r.served u.stage (λ y. ne (r.seats.tickets j id r.served u v h at y mine)) g.stands;
                };
            mine = record { opening = f.opening; rest = []; seen = append-nil (v.seen ++ e ∷ []) ∙ whole; others = refl; heard = prefix_more v.heard r.log (e ∷ []) f.heard; distinct = f.distinct; stands = tt };
            ticket = λ j n u ne h a y. let z = a in cc;
            unused = λ n h. own_none (n ∷ []) r.log (e ∷ []) (r.seats.unused n h) (own_not (n ∷ []) e (not_true (has (n ∷ []) e.by) (λ y.
                let same : n ≡ e.by = has_one e.by n y in
                let made : is_number s.views n ≡ true = subst (λ (m : ℕ). is_number s.views m ≡ true) (sym same) (r.seats.made id e.by v at own_number) in
                let clash : true ≡ false = sym made ∙ h in cc)));
          };
        },
        (
          tells,
          found ∙ (sym r.count ∙ ap length stand.2),
          subst (λ n. n < MOST_CALLS) (sym found) (omega arith),
        ),
      )

  told_call : (v : View S E A) (kept : Kept S E A) (last : Last E A) → kept.last.value ≡ Some last → Serves (v, (0, kept) ∷ []) (idle_view v (entry (first_number v.numbers) last.event.value last.answer.value), [])
  told_call v kept last is_last kept' last' p q =
      let one : kept ≡ kept' = ap (first_or kept) p in
      let two : last ≡ last' = cc in ap (λ (x : Last E A). (idle_view v (entry (first_number v.numbers) x.event.value x.answer.value), [])) two

  told_visit : (v : View S E A) (kept : Kept S E A) (event : E) (answer : A) → steps kept.before.value event answer kept.state → ServesVisit steps (v, (0, kept) ∷ []) (idle_view v (entry (first_number v.numbers) event answer), [])
  told_visit v kept event answer does kept' p =
      let one : kept ≡ kept' = ap (first_or kept) p in
      (event, answer, subst (λ (x : Kept S E A). steps x.before.value event answer x.state) one does, refl)

  -- the seat has the slot, if a call is noted that leads to the state there
  pub serves : (slots id t : ℕ) (me : Knows S E A) → me.0.stage ≡ Turn t → 0 < length me.0.numbers → me.0.opening ≡ Some key → HasWorked steps key me
      → Allows (Ruled steps k) slots id me 1 (λ n. (n + 1) % 2 ^ 64) (λ n. ServesAt n me)
  serves slots id t me stage some_number opened h =
      let whole : me ≡ (me.0, (0, h.kept) ∷ []) = ap (λ (l : List (ℕ × Kept S E A)). (me.0, l)) h.held in
      subst (λ (m : Knows S E A). Allows (Ruled steps k) slots id m 1 (λ n. (n + 1) % 2 ^ 64) (λ n. ServesAt n m)) (sym whole)
      (serves_by slots id t me.0 h.kept h.call.event.value h.call.answer.value (Serves (me.0, (0, h.kept) ∷ [])) stage some_number h.leads (told_call me.0 h.kept h.call h.noted))

  -- the seat has the slot, and a call leads from the state that is noted there to the state that lies there
  pub serves_visit : (slots id t : ℕ) (me : Knows S E A) → me.0.stage ≡ Turn t → 0 < length me.0.numbers → HasVisited steps key me
      → Allows (Ruled steps k) slots id me 1 (λ n. (n + 1) % 2 ^ 64) (λ n. ServesVisitAt steps n me)
  serves_visit slots id t me stage some_number h =
      let whole : me ≡ (me.0, (0, h.kept) ∷ []) = ap (λ (l : List (ℕ × Kept S E A)). (me.0, l)) h.held in
      subst (λ (m : Knows S E A). Allows (Ruled steps k) slots id m 1 (λ n. (n + 1) % 2 ^ 64) (λ n. ServesVisitAt steps n m)) (sym whole)
      (serves_by slots id t me.0 h.kept h.event h.answer (ServesVisit steps (me.0, (0, h.kept) ∷ [])) stage some_number h.leads (told_visit me.0 h.kept h.event h.answer h.does))
