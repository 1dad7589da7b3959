-- A part of a line that goes on as long as it can, as DATA does, within an automaton that goes on after it.
use Rattle.std.proofs.Common.{◌≡◌, ℕ, ◌≤◌, List, [], ◌∷◌, ◌++◌, length, refl, sym, ◌∙◌, ap, subst, arith, Option, Some, None, length-append}
use Rattle.std.specs.Prelude.{⊤}
use Rattle.std.specs.Option.{option_map, option_and_then}
use Rattle.console_operand.specs.Automaton.{read, Leads}
use Rattle.console_operand.proofs.Reading.{gone_on, gone_on_where}

module _ {P : Type 0} (part : P → List ℕ → Option P) where
  -- what comes after is no part of it
  abbrev pub Ends : P → List (List ℕ) → Type 0
  Ends p [] = ⊤
  Ends p (word ∷ words) = part p word ≡ None

  module _ {V : Type 0} (part_end : P → Option V) where
    -- the words of the part, what it comes to, and what comes after it
    pub record PartRest (p : P) (words : List (List ℕ)) (Q : V → List (List ℕ) → Type 0) : Type 0 where
      pub front : List (List ℕ)
      pub rest : List (List ℕ)
      pub end : P
      pub value : V
      pub cut : words ≡ front ++ rest
      pub leads : Leads part p front end
      pub is : part_end end ≡ Some value
      pub behind : Q value rest

    pub one_more : (word : List ℕ) (p more : P) (words : List (List ℕ)) (Q : V → List (List ℕ) → Type 0) → part p word ≡ Some more → PartRest more words Q → PartRest p (word ∷ words) Q
    one_more word p more words Q e it = record {
      front = word ∷ it.front;
      rest = it.rest;
      end = it.end;
      value = it.value;
      cut = ap (λ all. word ∷ all) it.cut;
      leads = (more, e, it.leads);
      is = it.is;
      behind = it.behind;
    }

    pub no_more : (p : P) (words : List (List ℕ)) (value : V) (Q : V → List (List ℕ) → Type 0) → part_end p ≡ Some value → Q value words → PartRest p words Q
    no_more p words value Q is it = record { front = []; rest = words; end = p; value = value; cut = refl; leads = refl; is = is; behind = it }

    -- what the automaton does after the part
    module _ {S C : Type 0} (step : S → List ℕ → Option S) (finish : S → Option C) (next : V → List ℕ → Option S) (last : V → Option C) where
      abbrev pub reads_behind : V → List (List ℕ) → Option C
      reads_behind value [] = last value
      reads_behind value (word ∷ words) = option_and_then (λ s. read step finish s words) (next value word)

      module _ (at : P → S)
          (goes : (p more : P) (word : List ℕ) → part p word ≡ Some more → step (at p) word ≡ Some (at more))
          (over : (p : P) (word : List ℕ) → part p word ≡ None → step (at p) word ≡ option_and_then (λ value. next value word) (part_end p))
          (ends : (p : P) → finish (at p) ≡ option_and_then last (part_end p)) where
        -- what leads on is read
        pub part_read : (words rest : List (List ℕ)) (p end : P) (value : V) → Leads part p words end → part_end end ≡ Some value → Ends end rest →
            read step finish (at p) (words ++ rest) ≡ reads_behind value rest
        part_read [] [] p end value leads is stops =
            ends p ∙ ap (λ x. option_and_then last (part_end x)) leads ∙ ap (option_and_then last) is
        part_read [] (word ∷ rest) p end value leads is stops =
            ap (option_and_then (λ s. read step finish s rest)) (ap (λ x. step (at x) word) leads ∙ over end word stops ∙ ap (option_and_then (λ v. next v word)) is)
        part_read (word ∷ words) rest p end value leads is stops =
            ap (option_and_then (λ s. read step finish s (words ++ rest))) (goes p leads.0 word leads.1) ∙ part_read words rest leads.0 end value leads.2 is stops

        abbrev Behind : P → List (List ℕ) → C → Type 0
        Behind p words c = PartRest p words (λ value rest. reads_behind value rest ≡ Some c)

        -- what is read leads on
        pub part_spelled : (words : List (List ℕ)) (p : P) (c : C) → read step finish (at p) words ≡ Some c → PartRest p words (λ value rest. reads_behind value rest ≡ Some c)
        part_spelled [] p c h =
            gone_on (part_end p) last c (λ value is e. no_more p [] value (λ v rest. reads_behind v rest ≡ Some c) is e) (sym (ends p) ∙ h)
        part_spelled (word ∷ words) p c h =
            elim (part p word) as (λ o. part p word ≡ o → Behind p (word ∷ words) c) [
              | Some more ↦ λ e.
                  let later : read step finish (at more) words ≡ Some c = sym (ap (option_and_then (λ s. read step finish s words)) (goes p more word e)) ∙ h in
                  one_more word p more words (λ value rest. reads_behind value rest ≡ Some c) e (part_spelled words more c later)
              | None ↦ λ e.
                  gone_on_where (part_end p) (λ value. next value word) (λ s. read step finish s words) c
                  (λ value is behind. no_more p (word ∷ words) value (λ v rest. reads_behind v rest ≡ Some c) is behind)
                  (sym (ap (option_and_then (λ s. read step finish s words)) (over p word e)) ∙ h)
            ] refl

      -- if no word may come after the part
      pub alone : ((value : V) (word : List ℕ) → next value word ≡ None) → (value : V) (rest : List (List ℕ)) (c : C) → reads_behind value rest ≡ Some c → (rest ≡ []) × (last value ≡ Some c)
      alone none value [] c h = (refl, h)
      alone none value (word ∷ rest) c h = let no_step = none value word in cc

-- a part of a part
pub leads_within : {P Q : Type 0} (part : P → List ℕ → Option P) (upper : Q → List ℕ → Option Q) (f : P → Q) →
    ((p more : P) (word : List ℕ) → part p word ≡ Some more → upper (f p) word ≡ Some (f more)) →
    (p end : P) (words : List (List ℕ)) → Leads part p words end → Leads upper (f p) words (f end)
leads_within part upper f goes p end [] h = ap f h
leads_within part upper f goes p end (word ∷ words) h = (f h.0, goes p h.0 word h.1, leads_within part upper f goes h.0 end words h.2)

-- nothing is kept if nothing may follow
pub never : {V S : Type 0} (o : Option V) → let none : Option S = None in option_and_then (λ value. none) o ≡ none
never None = refl
never (Some value) = refl

pub as_map : {V C : Type 0} (f : V → C) (o : Option V) → option_map f o ≡ option_and_then (λ value. Some (f value)) o
as_map f None = refl
as_map f (Some value) = refl

-- what comes after is not longer
pub behind_fits : (words front rest : List (List ℕ)) → words ≡ front ++ rest → length rest ≤ length words
behind_fits words front rest cut = subst (λ all. length rest ≤ length all) (sym cut) (omega (arith, length-append front rest))
