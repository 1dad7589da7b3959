-- A seat is split, or a note is made of what it has seen.
use Rattle.std.proofs.Common.{◌≡◌, ◌≢◌, ⊎_elim, ℕ, ◌+◌, ◌/◌, ◌||◌, true, List, [], ◌∷◌, ◌++◌, set, None, nat_eq, refl, ap, sym, ◌∙◌, subst, arith}
use Rattle.std.specs.List.{IsDistinct}
use Rattle.std.proofs.lemmas.List.{append-nil}
use Rattle.atomic_table.proofs.Lists.{at_set}
use mathlib.Core.Option.{some}
use lib.ListN.{get_elem?}
use Rattle.atomic_table.specs.Table.{State, Splits}
use Rattle.thread_lock.specs.declared.rule.Kept.{Kept}
use Rattle.thread_lock.specs.declared.rule.Opening.{Opening}
use Rattle.thread_lock.specs.declared.rule.View.{View}
use Rattle.thread_lock.specs.declared.rule.Stage.TheVariants.{New}
use Rattle.thread_lock.specs.Rule.{is_numbered, is_number, ticket_of, HasTaken, Fits, Ruled}
use Rattle.thread_lock.specs.History.{has, own}
use Rattle.thread_lock.specs.Plays.{view, front_of, first_half, other_half, note_view, bare_view, lent_view, kept_view, back_view}
use Rattle.thread_lock.proofs.Numbers.{has-append, none_distinct, or_left, or_right, Parts, distinct_parts, front_first}
use Rattle.thread_lock.proofs.Histories.{own_nobody, own_each}
use Rattle.thread_lock.proofs.Rows.{number_set, calls_set, calls_more}
use Rattle.thread_lock.proofs.Seating.{lessened, came}
use Rattle.thread_lock.proofs.Slots.{lies_set, lies_more}

module _ {S E A : Type 0} (steps : S → E → A → S → Type 0) (k : Opening S) where
  abbrev key : S
  key = k.state.value

  module _ (s : State (Kept S E A) (View S E A)) (r : Ruled steps k s) (id : ℕ) (v : View S E A) (at : get_elem? s.views id ≡ some v) where
    -- of one seat there come two, which have its numbers
    cuts : (left right : View S E A) → v.numbers ≡ left.numbers ++ right.numbers → left.taken ≡ v.taken → left.stage ≡ v.stage → left.left + right.left ≡ v.left
        → Fits key r.log r.drawn r.served left → Fits key r.log r.drawn r.served right → ticket_of right.stage ≡ None → ((n : ℕ) → HasTaken right n → is_number s.views n ≡ true)
        → Ruled steps k record { words = s.words; homes = s.homes; views = set s.views id left ++ right ∷ [] }
    cuts left right numbers taken stage parts fits_left fits_right no_ticket knows = record {
      drawn = r.drawn;
      served = r.served;
      bell = r.bell;
      log = r.log;
      state = r.state;
      words = r.words;
      behind = r.behind;
      room = let h = r.room in omega (arith, calls_set s.views id v left at, calls_more (set s.views id left) right);
      small = r.small;
      count = r.count;
      leads = r.leads;
      lies = lies_more r.state r.served s.homes (set s.views id left) right (lies_set r.state r.served s.homes s.views id v left at (λ h. stage ∙ h) r.lies);
      seats = came key r.log r.drawn r.served (set s.views id left) right apart (λ n h. still n (r.seats.made id n v at (of_both n (or_right (has left.numbers n) (has right.numbers n) h)))) no_ticket fits_right (λ n h. still n (knows n h))
          (lessened key r.log r.drawn r.served s.views id v left at (λ n h. of_both n (or_left (has left.numbers n) (has right.numbers n) h)) taken stage fits_left r.seats);
    }
      where
        still : (n : ℕ) → is_number s.views n ≡ true → is_number (set s.views id left) n ≡ true
        still n h = number_set s.views id n v left at (λ y. ap is_numbered stage ∙ y) h

        of_both : (n : ℕ) → has left.numbers n || has right.numbers n ≡ true → has v.numbers n ≡ true
        of_both n h = ap (λ (l : List ℕ). has l n) numbers ∙ (has-append left.numbers right.numbers n ∙ h)

        differ : Parts left.numbers right.numbers
        differ = distinct_parts left.numbers right.numbers (subst (IsDistinct nat_eq) numbers (r.seats.each id v at).distinct)

        apart : (j n : ℕ) (u : View S E A) → get_elem? (set s.views id left) j ≡ some u → has right.numbers n ≡ true → has u.numbers n ≡ true → ⊥
        apart j n u e a b = ⊎_elim
            (λ (t : (j ≡ id) × (left ≡ u)). differ.apart n (subst (λ (x : View S E A). has x.numbers n ≡ true) (sym t.1) b) a)
            (λ (t : (j ≢ id) × (get_elem? s.views j ≡ some u)). t.0 (r.seats.numbers j id n u v t.1 at b (of_both n (or_right (has left.numbers n) (has right.numbers n) a)))) (at_set s.views id j left u e)

    -- what a seat with no number knows, that has seen the same
    fits_new : (taken : List ℕ) (left : ℕ) → Fits key r.log r.drawn r.served (view v.opening v.seen v.seen [] taken left New)
    fits_new taken left = let f = r.seats.each id v at in record { opening = f.opening; rest = f.rest; seen = f.seen; others = own_nobody f.rest; heard = (f.rest, f.seen); distinct = none_distinct; stands = tt }

  pub halves : (id : ℕ) (v : View S E A) → Splits (Ruled steps k) id v (first_half v) (other_half v)
  halves id v s r at =
      let f = r.seats.each id v at in
      cuts s r id v at (first_half v) (other_half v) (sym (append-nil v.numbers)) refl refl (omega arith) record { opening = f.opening; rest = f.rest; seen = f.seen; others = f.others; heard = f.heard; distinct = f.distinct; stands = f.stands }
      (fits_new s r id v at v.numbers (v.left / 2)) refl (λ n h. r.seats.made id n v at h)

  pub notes : (id : ℕ) (v : View S E A) → Splits (Ruled steps k) id v v (note_view v)
  notes id v s r at = cuts s r id v at v (note_view v) (sym (append-nil v.numbers)) refl refl (omega arith) (r.seats.each id v at) (fits_new s r id v at [] 0) refl (λ n h. absurd (let z = h in cc))

  pub lends : (id : ℕ) (v : View S E A) → Splits (Ruled steps k) id v (bare_view v) (lent_view v)
  lends id v s r at =
      let f = r.seats.each id v at in
      cuts s r id v at (bare_view v) (lent_view v) refl refl refl (omega arith)
      record { opening = f.opening; rest = f.rest; seen = f.seen; others = own_nobody f.rest; heard = f.heard; distinct = none_distinct; stands = f.stands }
      record { opening = f.opening; rest = f.rest; seen = f.seen; others = f.others; heard = f.heard; distinct = f.distinct; stands = tt } refl (λ n h. r.seats.made id n v at h)

  -- a seat that has the numbers of two gives those of the second back
  pub returns : (id : ℕ) (v : View S E A) (ns : List ℕ) → v.numbers ≡ ns ++ v.taken → Splits (Ruled steps k) id v (kept_view v) (back_view v)
  returns id v ns both s r at =
      let f = r.seats.each id v at in
      let front : front_of v.numbers v.taken ≡ ns = ap (λ (l : List ℕ). front_of l v.taken) both ∙ front_first ns v.taken in
      let whole : v.numbers ≡ front_of v.numbers v.taken ++ v.taken = both ∙ ap (λ (l : List ℕ). l ++ v.taken) (sym front) in
      let d : Parts (front_of v.numbers v.taken) v.taken = distinct_parts (front_of v.numbers v.taken) v.taken (subst (IsDistinct nat_eq) whole f.distinct) in
      let o = own_each (front_of v.numbers v.taken) v.taken f.rest (subst (λ (l : List ℕ). own l f.rest ≡ []) whole f.others) in
      cuts s r id v at (kept_view v) (back_view v) whole refl refl (omega arith)
      record { opening = f.opening; rest = f.rest; seen = f.seen; others = o.0; heard = f.heard; distinct = d.first; stands = f.stands }
      record { opening = f.opening; rest = f.rest; seen = f.seen; others = o.1; heard = f.heard; distinct = d.second; stands = tt } refl (λ n h. r.seats.taken id n v at h)
