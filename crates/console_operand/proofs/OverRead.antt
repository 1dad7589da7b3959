-- Steps with words that come next, and those of a part within an automaton.
use Rattle.std.proofs.Common.{◌≡◌, ℕ, ◌+◌, ◌<◌, Bool, true, false, List, [], ◌∷◌, ◌++◌, length, refl, sym, ◌∙◌, ap, arith, Option, Some, None, Err, append_assoc, length-append}
use Rattle.std.specs.Option.{option_map}
use Rattle.console_operand.specs.Automaton.{GoesOn, Reading, TakesWord, Leads, Takes, GoesOver, outcome, onward}
use Rattle.console_operand.proofs.PartRead.{leads_within}

module _ {S : Type 0} (step : S → List ℕ → Option S) where
  -- no word is taken
  pub takes_none : (s : S) (at : Reading) → Takes step s at s at
  takes_none s at = record { front = []; leads = refl; cut = refl; count = omega arith }

  -- a step with one word
  pub goes_one : (goes : Bool) (old new : S) (word : List ℕ) (at : Reading) → GoesOn goes (step old word) new → GoesOver step goes old word at new at
  goes_one true old new word at h = (new, h, takes_none new at)
  goes_one false old new word at h = h

  leads_more : (s : S) (front : List (List ℕ)) (mid : S) (word : List ℕ) (end : S) → Leads step s front mid → step mid word ≡ Some end → Leads step s (front ++ word ∷ []) end
  leads_more s [] mid word end h e = (end, ap (λ x. step x word) h ∙ e, refl)
  leads_more s (first ∷ front) mid word end h e = (h.0, h.1, leads_more h.0 front mid word end h.2 e)

  -- one more word is taken
  pub takes_more : (s : S) (before : Reading) (mid : S) (at : Reading) (word : List ℕ) (end : S) (after : Reading) → Takes step s before mid at → TakesWord at word after →
      step mid word ≡ Some end → Takes step s before end after
  takes_more s before mid at word end after it taken e = record {
    front = it.front ++ word ∷ [];
    leads = leads_more s it.front mid word end it.leads e;
    cut = it.cut ∙ ap (λ rest. it.front ++ rest) taken.left ∙ sym (append_assoc it.front (word ∷ []) after.left);
    count = omega (arith, it.count, taken.count, length-append it.front (word ∷ []));
  }

-- a part of an automaton
module _ {P Q : Type 0} (part : P → List ℕ → Option P) (upper : Q → List ℕ → Option Q) (f : P → Q)
    (goes : (p more : P) (word : List ℕ) → part p word ≡ Some more → upper (f p) word ≡ Some (f more)) where
  pub takes_within : (p end : P) (before after : Reading) → Takes part p before end after → Takes upper (f p) before (f end) after
  takes_within p end before after it = record {
    front = it.front;
    leads = leads_within part upper f goes p end it.front it.leads;
    cut = it.cut;
    count = it.count;
  }

  -- if it goes on, the whole does
  pub over_within : (p end : P) (word : List ℕ) (before after : Reading) → GoesOver part true p word before end after → GoesOver upper true (f p) word before (f end) after
  over_within p end word before after h = (f h.0, goes p h.0 word h.1, takes_within h.0 end before after h.2)

-- a part that the whole is where it is
pub over_mapped : {P Q : Type 0} (part : P → List ℕ → Option P) (upper : Q → List ℕ → Option Q) (f : P → Q) (same : (p : P) (word : List ℕ) → upper (f p) word ≡ option_map f (part p word))
    (b : Bool) (p end : P) (word : List ℕ) (before after : Reading) → GoesOver part b p word before end after → GoesOver upper b (f p) word before (f end) after
over_mapped part upper f same true p end word before after h = over_within part upper f (λ p more word e. same p word ∙ ap (option_map f) e) p end word before after h
over_mapped part upper f same false p end word before after h = same p word ∙ ap (option_map f) h

pub goes_mapped : {P Q : Type 0} (part : P → List ℕ → Option P) (upper : Q → List ℕ → Option Q) (f : P → Q) (same : (p : P) (word : List ℕ) → upper (f p) word ≡ option_map f (part p word))
    (b : Bool) (p end : P) (word : List ℕ) (at : Reading) → GoesOn b (part p word) end → GoesOver upper b (f p) word at (f end) at
goes_mapped part upper f same true p end word at h = (f end, same p word ∙ ap (option_map f) h, takes_none upper (f end) at)
goes_mapped part upper f same false p end word at h = same p word ∙ ap (option_map f) h

module _ {S C : Type 0} (step : S → List ℕ → Option S) (finish : S → Option C) where
  -- what words come to after words that lead on
  outcome_leads : (s end : S) (front rest : List (List ℕ)) (k : ℕ) → Leads step s front end → outcome step finish s k (front ++ rest) ≡ outcome step finish end (k + length front) rest
  outcome_leads s end [] rest k h = let same : k ≡ k + 0 = omega arith in ap (λ x. outcome step finish x k rest) h ∙ ap (λ n. outcome step finish end n rest) same
  outcome_leads s end (word ∷ front) rest k h =
      let same : k + 1 + length front ≡ k + length (word ∷ front) = omega arith in
      ap (λ o. onward o (k + 1) (λ next. outcome step finish next (k + 1) (front ++ rest))) h.1
      ∙ outcome_leads h.0 end front rest (k + 1) h.2
      ∙ ap (λ n. outcome step finish end n rest) same

  -- after the next word
  outcome_word : (s : S) (word : List ℕ) (before at : Reading) → TakesWord before word at →
      outcome step finish s before.count before.left ≡ onward (step s word) at.count (λ next. outcome step finish next at.count at.left)
  outcome_word s word before at taken =
      ap (outcome step finish s before.count) taken.left ∙ ap (λ k. onward (step s word) k (λ next. outcome step finish next k at.left)) (sym taken.count)

  -- after the words with which a state goes on
  pub outcome_over : (old new : S) (word : List ℕ) (before at after : Reading) → TakesWord before word at → GoesOver step true old word at new after →
      outcome step finish old before.count before.left ≡ outcome step finish new after.count after.left
  outcome_over old new word before at after taken h =
      outcome_word old word before at taken
      ∙ ap (λ o. onward o at.count (λ next. outcome step finish next at.count at.left)) h.1
      ∙ ap (outcome step finish h.0 at.count) h.2.cut
      ∙ outcome_leads h.0 new h.2.front after.left at.count h.2.leads
      ∙ ap (λ k. outcome step finish new k after.left) h.2.count

  -- and if it can't go on
  pub outcome_none : (s : S) (word : List ℕ) (before at : Reading) → TakesWord before word at → step s word ≡ None → outcome step finish s before.count before.left ≡ Err at.count
  outcome_none s word before at taken none =
      outcome_word s word before at taken ∙ ap (λ o. onward o at.count (λ next. outcome step finish next at.count at.left)) none

  -- fewer words are left
  pub over_shorter : (old new : S) (word : List ℕ) (before at after : Reading) → TakesWord before word at → GoesOver step true old word at new after → length after.left < length before.left
  over_shorter old new word before at after taken h =
      let all : length before.left ≡ length (word ∷ at.left) = ap length taken.left in
      let cut : length at.left ≡ length (h.2.front ++ after.left) = ap length h.2.cut in
      omega (arith, all, cut, length-append h.2.front after.left)
