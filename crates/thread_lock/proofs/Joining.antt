-- A seat takes in a note, or another seat with its numbers and calls.
use Rattle.std.proofs.Common.{◌≡◌, ◌≢◌, ⊎_elim, ℕ, ◌+◌, ◌||◌, true, false, List, [], ◌++◌, set, Some, None, refl, ap, sym, ◌∙◌, subst, arith}
use mathlib.Core.Option.{some}
use lib.ListN.{get_elem?}
use Rattle.atomic_table.specs.Table.{State, Joins}
use Rattle.atomic_table.proofs.Lists.{at_set, set_else}
use Rattle.thread_lock.specs.declared.entry.Entry.{Entry}
use Rattle.thread_lock.specs.declared.rule.Kept.{Kept}
use Rattle.thread_lock.specs.declared.rule.Opening.{Opening}
use Rattle.thread_lock.specs.declared.rule.View.{View}
use Rattle.thread_lock.specs.declared.rule.Stage.TheVariants.{New, Idle, Turn}
use Rattle.thread_lock.specs.History.{has, own}
use Rattle.thread_lock.specs.Rule.{is_numbered, ticket_of, is_number, Fits, Seats, Ruled}
use Rattle.thread_lock.specs.Plays.{told_view, joint_view, spent_view}
use Rattle.thread_lock.proofs.Prefixes.{same_rest}
use Rattle.thread_lock.proofs.Numbers.{false_before, one_or_other, has-append, none_distinct, distinct-append}
use Rattle.thread_lock.proofs.Histories.{own_nobody, own_both}
use Rattle.thread_lock.proofs.Rows.{number_set, calls_set, set_swap}
use Rattle.thread_lock.proofs.Seating.{changed, rested}
use Rattle.thread_lock.proofs.Slots.{lies_set}

module _ {S E A : Type 0} (steps : S → E → A → S → Type 0) (k : Opening S) where
  abbrev key : S
  key = k.state.value

  fits_spent : (log : List (Entry E A)) (drawn served : ℕ) → Fits key log drawn served spent_view
  fits_spent log drawn served = record { opening = λ o e. absurd (let z = e in cc); rest = log; seen = refl; others = own_nobody log; heard = (log, refl); distinct = none_distinct; stands = tt }

  -- the seat `other` is spent
  spends : (log : List (Entry E A)) (drawn served : ℕ) (vs : List (View S E A)) (other : ℕ) (w : View S E A) → get_elem? vs other ≡ some w → Seats key log drawn served vs → Seats key log drawn served (set vs other spent_view)
  spends log drawn served vs other w at s = changed key log log drawn drawn served served vs other w spent_view s record {
    at = at;
    others = λ j u ne e. s.each j u e;
    mine = fits_spent log drawn served;
    stays = λ _. refl;
    ticket = λ j t u ne e a b. let z = a in cc;
    number = λ j n u ne e a b. let z = a in cc;
    made = λ n h. absurd (let z = h in cc);
    taken = λ n h. absurd (let z = h in cc);
    unused = λ n h ne. s.unused n h;
    unused_self = λ h. absurd (let z = h in cc);
  }

  -- a seat becomes `both`, and the seat `other`, which has no turn, is spent
  spending : (s : State (Kept S E A) (View S E A)) (r : Ruled steps k s) (id other : ℕ) (v w both : View S E A) → get_elem? s.views id ≡ some v → get_elem? (set s.views id both) other ≡ some w
      → both.left ≡ v.left + w.left → both.stage ≡ v.stage → (w.stage ≡ Turn r.served → ⊥) → Seats key r.log r.drawn r.served (set (set s.views id both) other spent_view)
      → Ruled steps k record { words = s.words; homes = s.homes; views = set (set s.views id both) other spent_view }
  spending s r id other v w both at there left stage no_turn seats = record {
    drawn = r.drawn;
    served = r.served;
    bell = r.bell;
    log = r.log;
    state = r.state;
    words = r.words;
    behind = r.behind;
    room = let h = r.room in omega (arith, left, calls_set s.views id v both at, calls_set (set s.views id both) other w spent_view there);
    small = r.small;
    count = r.count;
    leads = r.leads;
    lies = lies_set r.state r.served s.homes (set s.views id both) other w spent_view there (λ h. absurd (no_turn h)) (lies_set r.state r.served s.homes s.views id v both at (λ h. stage ∙ h) r.lies);
    seats = seats;
  }

  pub hears : (id other : ℕ) (v w : View S E A) → w.stage ≡ New → w.left ≡ 0 → Joins (Ruled steps k) id v other w (told_view v w) spent_view
  hears id other v w new none_left s r at ne there =
      let both : View S E A = told_view v w in
      let was : get_elem? s.views other ≡ some w = sym (set_else s.views id other both ne) ∙ there in
      let f = r.seats.each id v at in
      let g = r.seats.each other w was in
      spending s r id other v w both at there (omega arith) refl (λ h. let z = sym new ∙ h in cc)
      (spends r.log r.drawn r.served (set s.views id both) other w there
      (rested key r.log r.drawn r.served s.views id v both at refl refl refl record { opening = f.opening; rest = f.rest; seen = f.seen; others = f.others; heard = (g.rest, g.seen); distinct = f.distinct; stands = f.stands } r.seats))

  pub merges : (id other : ℕ) (v w : View S E A) → v.stage ≡ Idle → w.stage ≡ Idle → v.seen ≡ w.seen → Joins (Ruled steps k) id v other w (joint_view v w) spent_view
  merges id other v w idle idle' same s r at ne there =
      let both : View S E A = joint_view v w in
      let was : get_elem? s.views other ≡ some w = sym (set_else s.views id other both ne) ∙ there in
      let vs : List (View S E A) = set s.views other spent_view in
      let here : get_elem? vs id ≡ some v = set_else s.views other id spent_view (λ e. ne (sym e)) ∙ at in
      let gone : Seats key r.log r.drawn r.served vs = spends r.log r.drawn r.served s.views other w was r.seats in
      let f = r.seats.each id v at in
      let g = r.seats.each other w was in
      let rests : f.rest ≡ g.rest = same_rest v.seen f.rest g.rest (f.seen ∙ (sym g.seen ∙ ap (λ (l : List (Entry E A)). l ++ g.rest) (sym same))) in
      let others : own w.numbers f.rest ≡ [] = subst (λ (l : List (Entry E A)). own w.numbers l ≡ []) (sym rests) g.others in
      let parted : (n : ℕ) → has (v.numbers ++ w.numbers) n ≡ true → has v.numbers n || has w.numbers n ≡ true = λ n h. sym (has-append v.numbers w.numbers n) ∙ h in
      let apart : (n : ℕ) → has v.numbers n ≡ true → has w.numbers n ≡ true → ⊥ = λ n a b. ne (r.seats.numbers other id n w v was at b a) in
      let made : (n : ℕ) → has (v.numbers ++ w.numbers) n ≡ true → is_number s.views n ≡ true =
      λ n h. one_or_other (has v.numbers n) (has w.numbers n) (is_number s.views n ≡ true) (parted n h) (λ a. r.seats.made id n v at a) (λ a. r.seats.made other n w was a) in
      let up : (n : ℕ) → is_number s.views n ≡ true → is_number vs n ≡ true = λ n h. number_set s.views other n w spent_view was (λ _. refl) h in
      let up_again : (n : ℕ) → is_number vs n ≡ true → is_number (set vs id both) n ≡ true = λ n h. number_set vs id n v both here (λ y. y) h in
      spending s r id other v w both at there refl refl (λ h. let z = sym idle' ∙ h in cc)
      (subst (Seats key r.log r.drawn r.served) (sym (set_swap s.views id other both spent_view ne))
      (changed key r.log r.log r.drawn r.drawn r.served r.served vs id v both gone record {
        at = here;
        others = λ j u no e. gone.each j u e;
        mine = record { opening = f.opening; rest = f.rest; seen = f.seen; others = own_both v.numbers w.numbers f.rest f.others others; heard = f.heard; distinct = distinct-append v.numbers w.numbers f.distinct g.distinct apart; stands = f.stands };
        stays = λ y. y;
        ticket = λ j t u no e a b. let z : None ≡ Some t = sym (ap ticket_of idle) ∙ a in cc;
        number = λ j n u no e a b. ⊎_elim
            (λ (t : (j ≡ other) × (spent_view ≡ u)). let z : false ≡ true = ap (λ (x : View S E A). has x.numbers n) t.1 ∙ b in cc)
            (λ (t : (j ≢ other) × (get_elem? s.views j ≡ some u)). one_or_other (has v.numbers n) (has w.numbers n) ⊥ (parted n a)
            (λ y. no (r.seats.numbers j id n u v t.1 at b y)) (λ y. t.0 (r.seats.numbers j other n u w t.1 was b y)))
            (at_set s.views other j spent_view u e);
        made = λ n h. up_again n (up n (made n h));
        taken = λ n h. up_again n (up n (r.seats.made other n w was h));
        unused = λ n h no. r.seats.unused n (false_before (is_number s.views n) (is_number vs n) (up n) h);
        unused_self = λ h. absurd (let z : true ≡ false = sym (ap is_numbered idle) ∙ h in cc);
      }))
