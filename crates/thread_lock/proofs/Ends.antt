-- The table as it is made, and as it is when no thread shares it any more.
use Rattle.std.proofs.Common.{◌≡◌, ⊎_elim, inl, ℕ, zero, suc, ◌+◌, ◌<◌, ◌≤◌, true, false, List, [], ◌∷◌, length, refl, ap, sym, ◌∙◌, subst, arith}
use mathlib.Core.List.{IsPrefix}
use mathlib.Core.Option.{some, none, some-injective, some-ne-none}
use mathlib.Core.Option as maybe
use lib.ListN.{get_elem?}
use Rattle.atomic_table.specs.Table.{State, opening, Final, Seen}
use Rattle.thread_lock.specs.declared.turns.TheConstants.{MOST_CALLS}
use Rattle.thread_lock.specs.declared.entry.Entry.{Entry}
use Rattle.thread_lock.specs.declared.rule.Kept.{Kept}
use Rattle.thread_lock.specs.declared.rule.Opening.{Opening}
use Rattle.thread_lock.specs.declared.rule.View.{View}
use Rattle.thread_lock.specs.declared.rule.Stage.TheVariants.{Turn}
use Rattle.thread_lock.specs.History.{Leads, has, own}
use Rattle.thread_lock.specs.Rule.{is_number, Stands, Fits, Ruled}
use Rattle.thread_lock.specs.Plays.{first_view}
use Rattle.thread_lock.proofs.Numbers.{has_one, one_distinct}
use Rattle.thread_lock.proofs.Histories.{own_same}
use Rattle.thread_lock.proofs.Rows.{calls_more, calls_of}

module _ {S E A : Type 0} (steps : S → E → A → S → Type 0) (k : Opening S) where
  abbrev key : S
  key = k.state.value

  -- the table at the start
  pub opens : (kept : Kept S E A) → kept.state ≡ key → k.calls ≤ MOST_CALLS → Ruled steps k (opening (0 ∷ 0 ∷ 0 ∷ []) (kept ∷ []) (first_view k))
  opens kept same small = record {
    drawn = 0;
    served = 0;
    bell = 0;
    log = [];
    state = key;
    words = refl;
    behind = omega arith;
    room = let h = calls_more {S = S} {E = E} {A = A} [] (first_view k) in omega arith;
    small = small;
    count = refl;
    leads = refl;
    lies = inl (kept, same, refl);
    seats = record {
      each = λ j v e. only (λ (x : View S E A). Fits key [] 0 0 x) j v e record { opening = λ o p. let z = p in cc; rest = []; seen = refl; others = refl; heard = ([], refl); distinct = one_distinct 0; stands = tt };
      tickets = λ i j t v w p q a b. only_at i j v w p q;
      numbers = λ i j n v w p q a b. only_at i j v w p q;
      made = λ j n v e h. only (λ (x : View S E A). has x.numbers n ≡ true → is_number one n ≡ true) j v e (λ y. subst (λ (m : ℕ). is_number one m ≡ true) (has_one n 0 y) refl) h;
      taken = λ j n v e h. only (λ (x : View S E A). has x.taken n ≡ true → is_number one n ≡ true) j v e (λ y. no_number n y) h;
      unused = λ n h. refl;
    };
  }
    where
      one : List (View S E A)
      one = first_view k ∷ []

      no_number : (n : ℕ) → has [] n ≡ true → is_number one n ≡ true
      no_number n y = absurd (let z : false ≡ true = y in cc)

      only : (P : View S E A → Type 0) (j : ℕ) (v : View S E A) → get_elem? (first_view k ∷ []) j ≡ some v → P (first_view k) → P v
      only P zero v e p = subst P (some-injective (first_view k) v e) p
      only P (suc j) v e p = absurd (some-ne-none v (sym e))

      only_at : (i j : ℕ) (v w : View S E A) → get_elem? (first_view k ∷ []) i ≡ some v → get_elem? (first_view k ∷ []) j ≡ some w → i ≡ j
      only_at zero zero v w p q = refl
      only_at (suc i) j v w p q = absurd (some-ne-none v (sym p))
      only_at zero (suc j) v w p q = absurd (some-ne-none w (sym q))

  -- if as many tickets were served as were drawn, the slot has the state that a history leads to, which begins with what the seat has seen
  pub record Ended (v : View S E A) (xs : List (Kept S E A)) : Type 0 where
    pub kept : Kept S E A
    pub log : List (Entry E A)
    pub there : get_elem? xs 0 ≡ some kept
    pub leads : Leads steps key log kept.state
    pub begins : IsPrefix v.seen log
    pub same_calls : own v.numbers log ≡ own v.numbers v.seen
    pub room : length log + v.left ≤ k.calls

  pub ends : (id n : ℕ) (v : View S E A) (ws : List ℕ) (xs : List (Kept S E A)) → Final (Seen (Ruled steps k) id v) ws xs → get_elem? ws 0 ≡ some n → get_elem? ws 1 ≡ some n → Ended v xs
  ends id n v ws xs end first second =
      let s : State (Kept S E A) (View S E A) = end.0 in
      let r : Ruled steps k s = end.1.0 in
      let drawn : r.drawn ≡ n = some-injective r.drawn n (sym (ap (λ (l : List ℕ). get_elem? l 0) r.words) ∙ (ap (λ (l : List ℕ). get_elem? l 0) end.2 ∙ first)) in
      let served : r.served ≡ n = some-injective r.served n (sym (ap (λ (l : List ℕ). get_elem? l 1) r.words) ∙ (ap (λ (l : List ℕ). get_elem? l 1) end.2 ∙ second)) in
      let f = r.seats.each id v end.1.1 in
      ⊎_elim
      (λ (h : (kept : Kept S E A) × (kept.state ≡ r.state) × (s.homes ≡ some kept ∷ [])). record {
        kept = h.0;
        log = r.log;
        there = end.4 0 h.0 (ap (λ (hs : List (maybe.Option (Kept S E A))). get_elem? hs 0) h.2);
        leads = subst (Leads steps key r.log) (sym h.1) r.leads;
        begins = (f.rest, f.seen);
        same_calls = own_same v.numbers v.seen f.rest r.log f.seen f.others;
        room = let all = r.room in let count = r.count in let behind = r.behind in omega (arith, calls_of s.views id v end.1.1);
      })
      (λ (h : (s.homes ≡ none ∷ []) × ((j : ℕ) × (u : View S E A) × (get_elem? s.views j ≡ some u) × (u.stage ≡ Turn r.served))).
      let stand : (r.served ≡ r.served) × (r.served < r.drawn) × (r.log ≡ h.1.1.seen) = subst (Stands r.log r.drawn r.served h.1.1.seen) h.1.3 (r.seats.each h.1.0 h.1.1 h.1.2).stands in
      let below = stand.1 in absurd (omega arith))
      r.lies
