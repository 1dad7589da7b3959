-- Steps that leave the history and the slot as they are.
use Rattle.std.proofs.Common.{◌≡◌, ℕ, ◌<◌, ◌≤◌, ◌+◌, ◌%◌, ◌^◌, ◌==◌, true, false, List, [], ◌∷◌, ◌++◌, set, get_or, Some, refl, ap, sym, ◌∙◌, subst, arith}
use mathlib.Core.Option.{some}
use lib.ListN.{get_elem?}
use lib.Seq.{set-get_or}
use prog.Atomic.{either}
use Rattle.atomic_table.specs.Table.{State, Act, keeps, stepped, Valid, carried_after, Allows}
use Rattle.atomic_table.proofs.Lists.{set_again, exchanged}
use Rattle.thread_lock.specs.declared.turns.TheConstants.{MOST_CALLS}
use Rattle.thread_lock.specs.declared.entry.Entry.{Entry}
use Rattle.thread_lock.specs.declared.rule.Kept.{Kept}
use Rattle.thread_lock.specs.declared.rule.Opening.{Opening}
use Rattle.thread_lock.specs.declared.rule.View.{View}
use Rattle.thread_lock.specs.declared.rule.Stage.{Stage}
use Rattle.thread_lock.specs.declared.rule.Stage.TheVariants.{New, Idle, Waiting, Turn}
use Rattle.thread_lock.specs.History.{Leads, IsLegal, has, own, longer}
use Rattle.thread_lock.specs.Rule.{Knows, is_numbered, ticket_of, is_number, Stands, Seats, Ruled}
use Rattle.thread_lock.specs.Plays.{waiting_view, numbered_view, settled_view, Draws, DrawsNext, Stays, Settles, GetsNumber}
use Rattle.thread_lock.proofs.Words.{one_more}
use Rattle.thread_lock.proofs.Numbers.{has_one, not_true, one_distinct}
use Rattle.thread_lock.proofs.Histories.{own_rest, own_front, longer_of, legal_front}
use Rattle.thread_lock.proofs.Rows.{at_here, number_at, number_set, calls_set, calls_of}
use Rattle.thread_lock.proofs.Seating.{changed, renewed, rested}
use Rattle.thread_lock.proofs.Slots.{lies_set}

module _ {E A : Type 0} (log seen : List (Entry E A)) (drawn served : ℕ) where
  pub ticket_below : (t : ℕ) (st : Stage) → Stands log drawn served seen st → ticket_of st ≡ Some t → t < drawn
  ticket_below t New h e = absurd (cc)
  ticket_below t Idle h e = absurd (cc)
  ticket_below t (Waiting u) h e = let i : u ≡ t = cc in let b = h.1 in omega arith
  ticket_below t (Turn u) h e = let i : u ≡ t = cc in let b = h.1 in omega arith

  -- a seat stands where it stood, when another draws a ticket
  stands_drawn : (st : Stage) → Stands log drawn served seen st → Stands log (drawn + 1) served seen st
  stands_drawn New h = tt
  stands_drawn Idle h = tt
  stands_drawn (Waiting u) h = let a = h.0 in let b = h.1 in (a, omega arith)
  stands_drawn (Turn u) h = let b = h.1 in (h.0, omega arith, h.2)

module _ {S E A : Type 0} (steps : S → E → A → S → Type 0) (k : Opening S) where
  abbrev key : S
  key = k.state.value

  module _ (s : State (Kept S E A) (View S E A)) (r : Ruled steps k s) (id : ℕ) where
    -- the seat's view changes, and not the number of tickets served
    steady : (v w : View S E A) (words : List ℕ) (drawn bell : ℕ) → get_elem? s.views id ≡ some v → words ≡ drawn ∷ r.served ∷ bell ∷ [] → r.served ≤ drawn → drawn + w.left ≡ r.drawn + v.left
        → (v.stage ≡ Turn r.served → w.stage ≡ Turn r.served) → Seats key r.log drawn r.served (set s.views id w) → Ruled steps k record { words = words; homes = s.homes; views = set s.views id w }
    steady v w words drawn bell at is behind left stays seats = record {
      drawn = drawn;
      served = r.served;
      bell = bell;
      log = r.log;
      state = r.state;
      words = is;
      behind = behind;
      room = let h = r.room in omega (arith, calls_set s.views id v w at);
      small = r.small;
      count = r.count;
      leads = r.leads;
      lies = lies_set r.state r.served s.homes s.views id v w at stays r.lies;
      seats = seats;
    }

    -- a load
    pub loaded : (i : ℕ) (v w : View S E A) → get_elem? s.views id ≡ some v → w.left ≡ v.left → (v.stage ≡ Turn r.served → w.stage ≡ Turn r.served) → Seats key r.log r.drawn r.served (set s.views id w)
        → Ruled steps k record { words = set s.words i (get_or s.words i 0); homes = s.homes; views = set s.views id w }
    loaded i v w at left stays seats = steady v w (set s.words i (get_or s.words i 0)) r.drawn r.bell at (set-get_or s.words i 0 ∙ r.words) r.behind (ap (λ (n : ℕ). r.drawn + n) left) stays seats

    few : (v : View S E A) → get_elem? s.views id ≡ some v → v.left ≤ MOST_CALLS
    few v at = let room = r.room in let small = r.small in omega (arith, calls_of s.views id v at)

    stays : (me : Knows S E A) → get_elem? s.views id ≡ some me.0 → Stays me me
    stays me at = record { is = refl; few = few me.0 at; distinct = (r.seats.each id me.0 at).distinct }

    same_seats : (v : View S E A) → get_elem? s.views id ≡ some v → Seats key r.log r.drawn r.served (set s.views id v)
    same_seats v at = subst (Seats key r.log r.drawn r.served) (sym (set_again s.views id v at)) r.seats

  -- ---- nothing changes for the seat
  pub stays_at_load : (slots i id : ℕ) (me : Knows S E A) → Allows (Ruled steps k) slots id me i (λ n. n) (λ n. Stays me)
  stays_at_load slots i id me s r long at small =
      (me.0, keeps, tt, loaded s r id i me.0 me.0 at refl (λ h. h) (same_seats s r id me.0 at), stays s r id me at)

  pub stays_at_bell : (slots id n : ℕ) (me : Knows S E A) → Allows (Ruled steps k) slots id me 2 (λ _. n) (λ m. Stays me)
  stays_at_bell slots id n me s r long at small =
      (me.0, keeps, tt, steady s r id me.0 me.0 (set s.words 2 n) r.drawn n at (ap (λ (ws : List ℕ). set ws 2 n) r.words) r.behind refl (λ h. h) (same_seats s r id me.0 at), stays s r id me at)

  -- ---- a ticket is drawn
  module _ (slots id : ℕ) (me : Knows S E A) (idle : me.0.stage ≡ Idle) (left : 0 < me.0.left) where
    -- what a step on the first word has to give, at which this becomes of it
    abbrev Given : State (Kept S E A) (View S E A) → (Knows S E A → Type 0) → ℕ → Type 0
    Given s then n = (w : View S E A) × (a : Act (Kept S E A)) × Valid s.homes me.1 a × Ruled steps k (stepped s 0 n id me.1 w a) × then (w, carried_after me.1 a)

    drawing : (s : State (Kept S E A) (View S E A)) (r : Ruled steps k s) → get_elem? s.views id ≡ some me.0 → Given s (Draws me (get_or s.words 0 0)) ((get_or s.words 0 0 + 1) % 2 ^ 64)
    drawing s r at =
        let v = me.0 in
        let w : View S E A = waiting_view v r.drawn in
        let found : get_or s.words 0 0 ≡ r.drawn = ap (λ (ws : List ℕ). get_or ws 0 0) r.words in
        let room = r.room in
        let bound = r.small in
        let behind = r.behind in
        let f = r.seats.each id v at in
        let next : (get_or s.words 0 0 + 1) % 2 ^ 64 ≡ r.drawn + 1 = ap (λ (n : ℕ). (n + 1) % 2 ^ 64) found ∙ one_more r.drawn (omega arith) in (
          w,
          keeps,
          tt,
          steady s r id v w (set s.words 0 ((get_or s.words 0 0 + 1) % 2 ^ 64)) (r.drawn + 1) r.bell at (λ i. set (r.words i) 0 (next i)) (omega arith) (omega arith) (λ h. absurd (let z = sym idle ∙ h in cc))
              (renewed key r.log r.log r.drawn (r.drawn + 1) r.served r.served s.views id v w r.seats record {
                at = at;
                same_numbers = refl;
                same_taken = refl;
                same_stage = ap is_numbered (sym idle);
                others = λ j u ne e. let g = r.seats.each j u e in record {
                  opening = g.opening;
                  rest = g.rest;
                  seen = g.seen;
                  others = g.others;
                  heard = g.heard;
                  distinct = g.distinct;
                  stands = stands_drawn r.log u.seen r.drawn r.served u.stage g.stands;
                };
                mine = record { opening = f.opening; rest = f.rest; seen = f.seen; others = f.others; heard = f.heard; distinct = f.distinct; stands = (behind, omega arith) };
                ticket = λ j t u ne e a b.
                    let below = ticket_below r.log u.seen r.drawn r.served t u.stage (r.seats.each j u e).stands b in let same : r.drawn ≡ t = cc in omega arith;
                unused = r.seats.unused;
              }),
          ap (λ (n : ℕ). (waiting_view v n, me.1)) (sym found),
        )

    pub draws : Allows (Ruled steps k) slots id me 0 (λ n. (n + 1) % 2 ^ 64) (Draws me)
    draws s r long at small = drawing s r at

    pub draws_next : (expected next : ℕ) → next ≡ (expected + 1) % 2 ^ 64 → Allows (Ruled steps k) slots id me 0 (λ n. either (n == expected) next n) (DrawsNext expected me)
    draws_next expected next is s r long at small = exchanged (get_or s.words 0 0) expected next (Given s (DrawsNext expected me (get_or s.words 0 0)))
        (λ same.
        let d = subst (Given s (Draws me (get_or s.words 0 0))) (ap (λ (n : ℕ). (n + 1) % 2 ^ 64) same ∙ sym is) (drawing s r at) in (d.0, d.1, d.2, d.3, ((λ _. d.4), (λ ne. absurd (ne same)))))
        (λ ne. (me.0, keeps, tt, loaded s r id 0 me.0 me.0 at refl (λ h. h) (same_seats s r id me.0 at), ((λ same. absurd (ne same)), (λ _. refl))))

  -- ---- what was heard is taken in
  pub settles : (slots i id : ℕ) (me : Knows S E A) → me.0.stage ≡ Idle → Allows (Ruled steps k) slots id me i (λ n. n) (λ n. Settles steps me)
  settles slots i id me idle s r long at small =
      let v = me.0 in
      let f = r.seats.each id v at in
      let l = longer_of v.seen v.heard r.log f.rest f.heard.0 f.seen f.heard.1 in
      let others : own v.numbers (l.more ++ l.tail) ≡ [] = subst (λ (x : List (Entry E A)). own v.numbers x ≡ []) l.rest f.others in
      let w : View S E A = settled_view v in (
        w,
        keeps,
        tt,
        loaded s r id i v w at refl (λ h. h) (rested key r.log r.drawn r.served s.views id v w at refl refl refl record {
          opening = f.opening;
          rest = l.tail;
          seen = l.whole;
          others = own_rest v.numbers l.more l.tail others;
          heard = f.heard;
          distinct = f.distinct;
          stands = subst (Stands r.log r.drawn r.served (longer v.seen v.heard)) (sym idle) tt;
        } r.seats),
        record {
          is = refl;
          more = l.more;
          seen = l.first;
          others = own_front v.numbers l.more l.tail others;
          heard = l.second;
          legal = λ o e. subst (λ (x : S). IsLegal steps x (longer v.seen v.heard)) (sym (f.opening o e))
              (legal_front steps key r.state (longer v.seen v.heard) l.tail (subst (λ (x : List (Entry E A)). Leads steps key x r.state) (sym l.whole) r.leads));
        },
      )

  -- ---- a new seat gets its number, which is its place
  pub gets_number : (slots i id : ℕ) (me : Knows S E A) → me.0.stage ≡ New → Allows (Ruled steps k) slots id me i (λ n. n) (λ n. GetsNumber me)
  gets_number slots i id me new s r long at small =
      let v = me.0 in
      let f = r.seats.each id v at in
      let w : View S E A = numbered_view v id in
      let no_number : is_number s.views id ≡ false = number_at s.views id v at ∙ ap is_numbered new in
      let no_call : own (id ∷ []) (v.seen ++ f.rest) ≡ [] = subst (λ (x : List (Entry E A)). own (id ∷ []) x ≡ []) (sym f.seen) (r.seats.unused id no_number) in
      let is_made : is_number (set s.views id w) id ≡ true = number_at (set s.views id w) id w (at_here s.views id v w at) in
      let clash : is_number s.views id ≡ true → ⊥ = λ h. let z : true ≡ false = sym h ∙ no_number in cc in (
        w,
        keeps,
        tt,
        loaded s r id i v w at refl (λ h. absurd (let z = sym new ∙ h in cc)) (changed key r.log r.log r.drawn r.drawn r.served r.served s.views id v w r.seats record {
          at = at;
          others = λ j u ne e. r.seats.each j u e;
          mine = record { opening = f.opening; rest = f.rest; seen = f.seen; others = own_rest (id ∷ []) v.seen f.rest no_call; heard = f.heard; distinct = one_distinct id; stands = tt };
          stays = λ h. refl;
          ticket = λ j t u ne e a b. let z = a in cc;
          number = λ j n u ne e a b. clash (r.seats.made j id u e (subst (λ (m : ℕ). has u.numbers m ≡ true) (sym (has_one n id a)) b));
          made = λ n h. subst (λ (m : ℕ). is_number (set s.views id w) m ≡ true) (has_one n id h) is_made;
          taken = λ n h. number_set s.views id n v w at (λ h. refl) (r.seats.taken id n v at h);
          unused = λ n h ne. r.seats.unused n h;
          unused_self = λ h. absurd (let z = h in cc);
        }),
        (id, refl, not_true (has v.taken id) (λ h. clash (r.seats.taken id id v at h)), own_front (id ∷ []) v.seen f.rest no_call),
      )
