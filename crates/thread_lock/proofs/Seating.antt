-- The rule on seats, where the view of one seat changes or one more seat comes.
use Rattle.std.proofs.Common.{◌≡◌, ◌≢◌, ⊎_elim, ℕ, true, false, List, [], ◌∷◌, ◌++◌, set, None, ap, sym, ◌∙◌, subst}
use mathlib.Core.Option.{some}
use mathlib.Core.Logic.{dite}
use native.Mathlib.Decide.{ℕ_discrete}
use lib.ListN.{get_elem?}
use Rattle.atomic_table.proofs.Lists.{at_set, at_snoc}
use Rattle.thread_lock.specs.declared.entry.Entry.{Entry}
use Rattle.thread_lock.specs.declared.rule.View.{View}
use Rattle.thread_lock.specs.History.{has, own}
use Rattle.thread_lock.specs.Rule.{is_numbered, ticket_of, is_number, HasTicket, HasNumber, HasTaken, Fits, Seats}
use Rattle.thread_lock.proofs.Numbers.{false_before}
use Rattle.thread_lock.proofs.Rows.{at_here, number_at, number_set, number_more, apart_set, apart_more, numbers_set, numbers_more}

module _ {S E A : Type 0} where
  -- the view of the seat id becomes w
  module _ (key : S) (log log' : List (Entry E A)) (drawn drawn' served served' : ℕ) (vs : List (View S E A)) (id : ℕ) (v w : View S E A) where
    pub record Change : Type 0 where
      pub at : get_elem? vs id ≡ some v
      pub others : (j : ℕ) (u : View S E A) → j ≢ id → get_elem? vs j ≡ some u → Fits key log' drawn' served' u
      pub mine : Fits key log' drawn' served' w
      pub stays : is_numbered v.stage ≡ true → is_numbered w.stage ≡ true
      pub ticket : (j t : ℕ) (u : View S E A) → j ≢ id → get_elem? vs j ≡ some u → HasTicket w t → HasTicket u t → ⊥
      pub number : (j n : ℕ) (u : View S E A) → j ≢ id → get_elem? vs j ≡ some u → HasNumber w n → HasNumber u n → ⊥
      pub made : (n : ℕ) → HasNumber w n → is_number (set vs id w) n ≡ true
      pub taken : (n : ℕ) → HasTaken w n → is_number (set vs id w) n ≡ true
      pub unused : (n : ℕ) → is_number vs n ≡ false → n ≢ id → own (n ∷ []) log' ≡ []
      pub unused_self : is_numbered w.stage ≡ false → own (id ∷ []) log' ≡ []

    pub changed : Seats key log drawn served vs → Change → Seats key log' drawn' served' (set vs id w)
    changed s c = record {
      each = λ j u e. ⊎_elim (λ (t : (j ≡ id) × (w ≡ u)). subst (λ (x : View S E A). Fits key log' drawn' served' x) t.1 c.mine)
          (λ (t : (j ≢ id) × (get_elem? vs j ≡ some u)). c.others j u t.0 t.1) (at_set vs id j w u e);
      tickets = apart_set HasTicket vs id w c.ticket s.tickets;
      numbers = apart_set HasNumber vs id w c.number s.numbers;
      made = numbers_set HasNumber vs id v w c.at c.stays c.made s.made;
      taken = numbers_set HasTaken vs id v w c.at c.stays c.taken s.taken;
      unused = λ n h. dite (ℕ_discrete n id)
          (λ e. subst (λ (m : ℕ). own (m ∷ []) log' ≡ []) (sym e)
          (c.unused_self (sym (number_at (set vs id w) id w (at_here vs id v w c.at)) ∙ subst (λ (m : ℕ). is_number (set vs id w) m ≡ false) e h)))
          (λ ne. c.unused n (false_before (is_number vs n) (is_number (set vs id w) n) (number_set vs id n v w c.at c.stays) h) ne);
    }

    -- the same if the seat keeps its numbers, and so each seat its calls
    pub record Renewal : Type 0 where
      pub at : get_elem? vs id ≡ some v
      pub same_numbers : w.numbers ≡ v.numbers
      pub same_taken : w.taken ≡ v.taken
      pub same_stage : is_numbered w.stage ≡ is_numbered v.stage
      pub others : (j : ℕ) (u : View S E A) → j ≢ id → get_elem? vs j ≡ some u → Fits key log' drawn' served' u
      pub mine : Fits key log' drawn' served' w
      pub ticket : (j t : ℕ) (u : View S E A) → j ≢ id → get_elem? vs j ≡ some u → HasTicket w t → HasTicket u t → ⊥
      pub unused : (n : ℕ) → is_number vs n ≡ false → own (n ∷ []) log' ≡ []

    pub renewed : Seats key log drawn served vs → Renewal → Seats key log' drawn' served' (set vs id w)
    renewed s c =
        let keeps : is_numbered v.stage ≡ true → is_numbered w.stage ≡ true = λ h. c.same_stage ∙ h in
        changed s record {
          at = c.at;
          others = c.others;
          mine = c.mine;
          stays = keeps;
          ticket = c.ticket;
          number = λ j n u ne e a b. ne (s.numbers j id n u v e c.at b (subst (λ (l : List ℕ). has l n ≡ true) c.same_numbers a));
          made = λ n h. number_set vs id n v w c.at keeps (s.made id n v c.at (subst (λ (l : List ℕ). has l n ≡ true) c.same_numbers h));
          taken = λ n h. number_set vs id n v w c.at keeps (s.taken id n v c.at (subst (λ (l : List ℕ). has l n ≡ true) c.same_taken h));
          unused = λ n h ne. c.unused n h;
          unused_self = λ h. c.unused id (number_at vs id v c.at ∙ (sym c.same_stage ∙ h));
        }

  -- the history stays, and the seat keeps its numbers and its stage
  pub rested : (key : S) (log : List (Entry E A)) (drawn served : ℕ) (vs : List (View S E A)) (id : ℕ) (v w : View S E A) → get_elem? vs id ≡ some v
      → w.numbers ≡ v.numbers → w.taken ≡ v.taken → w.stage ≡ v.stage → Fits key log drawn served w
      → Seats key log drawn served vs → Seats key log drawn served (set vs id w)
  rested key log drawn served vs id v w at numbers taken stage fits s = renewed key log log drawn drawn served served vs id v w s record {
    at = at;
    same_numbers = numbers;
    same_taken = taken;
    same_stage = ap is_numbered stage;
    others = λ j u ne e. s.each j u e;
    mine = fits;
    ticket = λ j t u ne e a b. ne (sym (s.tickets id j t v u at e (ap ticket_of (sym stage) ∙ a) b));
    unused = s.unused;
  }

  -- the history stays, and the seat keeps some of its numbers, and its stage
  pub lessened : (key : S) (log : List (Entry E A)) (drawn served : ℕ) (vs : List (View S E A)) (id : ℕ) (v w : View S E A) → get_elem? vs id ≡ some v
      → ((n : ℕ) → HasNumber w n → HasNumber v n) → w.taken ≡ v.taken → w.stage ≡ v.stage → Fits key log drawn served w
      → Seats key log drawn served vs → Seats key log drawn served (set vs id w)
  lessened key log drawn served vs id v w at numbers taken stage fits s =
      let keeps : is_numbered v.stage ≡ true → is_numbered w.stage ≡ true = λ h. ap is_numbered stage ∙ h in
      changed key log log drawn drawn served served vs id v w s record {
        at = at;
        others = λ j u ne e. s.each j u e;
        mine = fits;
        stays = keeps;
        ticket = λ j t u ne e a b. ne (sym (s.tickets id j t v u at e (ap ticket_of (sym stage) ∙ a) b));
        number = λ j n u ne e a b. ne (s.numbers j id n u v e at b (numbers n a));
        made = λ n h. number_set vs id n v w at keeps (s.made id n v at (numbers n h));
        taken = λ n h. number_set vs id n v w at keeps (s.taken id n v at (subst (λ (l : List ℕ). has l n ≡ true) taken h));
        unused = λ n h ne. s.unused n h;
        unused_self = λ h. s.unused id (number_at vs id v at ∙ (ap is_numbered (sym stage) ∙ h));
      }

  -- a new seat comes, with numbers that no seat has
  pub came : (key : S) (log : List (Entry E A)) (drawn served : ℕ) (vs : List (View S E A)) (w : View S E A)
      → ((j n : ℕ) (u : View S E A) → get_elem? vs j ≡ some u → HasNumber w n → HasNumber u n → ⊥) → ((n : ℕ) → HasNumber w n → is_number vs n ≡ true) → ticket_of w.stage ≡ None
      → Fits key log drawn served w → ((n : ℕ) → HasTaken w n → is_number vs n ≡ true) → Seats key log drawn served vs → Seats key log drawn served (vs ++ w ∷ [])
  came key log drawn served vs w apart made no_ticket fits taken s = record {
    each = λ j u e. ⊎_elim (s.each j u) (λ (t : w ≡ u). subst (λ (x : View S E A). Fits key log drawn served x) t fits) (at_snoc vs w u j e);
    tickets = apart_more HasTicket vs w (λ j n u e h. let z = sym no_ticket ∙ h in cc) s.tickets;
    numbers = apart_more HasNumber vs w apart s.numbers;
    made = numbers_more HasNumber vs w made s.made;
    taken = numbers_more HasTaken vs w taken s.taken;
    unused = λ n h. s.unused n (false_before (is_number vs n) (is_number (vs ++ w ∷ []) n) (number_more vs w n) h);
  }
