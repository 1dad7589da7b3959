-- Where a line goes wrong: from one law, that each state has words after it that are accepted.
use Rattle.std.proofs.Common.{◌≡◌, ℕ, ◌+◌, ◌<◌, ◌≤◌, ◌==◌, true, false, cond, List, [], ◌∷◌, ◌++◌, length, take, refl, sym, ◌∙◌, ap, subst, arith, suc, Option, Some, None, IsSome, Result, Ok, Err, inl, inr, ◌⊎◌}
use Rattle.std.specs.Option.{option_and_then}
use Rattle.std.proofs.lemmas.Bool.{eqb-true}
use Rattle.console_operand.specs.Automaton.{read, outcome, onward, ending, found_at}

-- the end of a line: no word at all, or what is found
ending_is : {C : Type 0} (k : ℕ) (o : Option C) (r : Result (Option C) ℕ) → ending k o ≡ r → ((k ≡ 0) × (Ok None ≡ r)) ⊎ (found_at k o ≡ r)
ending_is k o r h =
    elim (k == 0) as (λ b. (k == 0) ≡ b → cond b (Ok None) (found_at k o) ≡ r → ((k ≡ 0) × (Ok None ≡ r)) ⊎ (found_at k o ≡ r)) [
      | true ↦ λ e same. inl (eqb-true k 0 e, same)
      | false ↦ λ _ same. inr same
    ] refl h

found_err : {C : Type 0} (k : ℕ) (o : Option C) (j : ℕ) → found_at k o ≡ Err j → (o ≡ None) × (j ≡ k + 1)
found_err k None j h = (refl, cc)
found_err k (Some c) j h = cc

found_some : {C : Type 0} (k : ℕ) (o : Option C) (c : C) → found_at k o ≡ Ok (Some c) → o ≡ Some c
found_some k None c h = cc
found_some k (Some other) c h = cc

found_none : {C : Type 0} (k : ℕ) (o : Option C) → found_at k o ≡ Ok None → ⊥
found_none k None h = cc
found_none k (Some c) h = cc

ending_err : {C : Type 0} (k : ℕ) (o : Option C) (j : ℕ) → ending k o ≡ Err j → (o ≡ None) × (j ≡ k + 1)
ending_err k o j h = elim (ending_is k o (Err j) h) [ inl it ↦ let e = it.1 in cc | inr it ↦ found_err k o j it ]

ending_some : {C : Type 0} (k : ℕ) (o : Option C) (c : C) → ending k o ≡ Ok (Some c) → o ≡ Some c
ending_some k o c h = elim (ending_is k o (Ok (Some c)) h) [ inl it ↦ let e = it.1 in cc | inr it ↦ found_some k o c it ]

ending_none : {C : Type 0} (k : ℕ) (o : Option C) → ending k o ≡ Ok None → k ≡ 0
ending_none k o h = elim (ending_is k o (Ok None) h) [ inl it ↦ it.0 | inr it ↦ absurd (found_none k o it) ]

module _ {S C : Type 0} (step : S → List ℕ → Option S) (finish : S → Option C) where
  -- some words that begin so are accepted after this state
  abbrev pub BeginsRead : S → List (List ℕ) → Type 0
  BeginsRead state front = (rest : List (List ℕ)) × IsSome (read step finish state (front ++ rest))

  -- after this state the first n words can be gone on with, and none has these and one more, or ends there
  pub record Refuses (state : S) (words : List (List ℕ)) (n : ℕ) : Type 0 where
    pub within : n ≤ length words
    pub before : BeginsRead state (take n words)
    pub stops : n < length words → (rest : List (List ℕ)) → read step finish state (take (suc n) words ++ rest) ≡ None
    pub refused : read step finish state words ≡ None

  -- the first word is refused
  refuses_first : (state : S) (word : List ℕ) (words end : List (List ℕ)) → IsSome (read step finish state end) → step state word ≡ None → Refuses state (word ∷ words) 0
  refuses_first state word words end ends none = record {
    within = omega arith;
    before = (end, ends);
    stops = λ _ rest. ap (option_and_then (λ next. read step finish next rest)) none;
    refused = ap (option_and_then (λ next. read step finish next words)) none;
  }

  -- a later one is
  refuses_later : (state next : S) (word : List ℕ) (words : List (List ℕ)) (n : ℕ) → step state word ≡ Some next → Refuses next words n → Refuses state (word ∷ words) (suc n)
  refuses_later state next word words n some it = record {
    within = omega (arith, it.within);
    before = (it.before.0, subst (λ o. IsSome (option_and_then (λ s. read step finish s (take n words ++ it.before.0)) o)) (sym some) it.before.1);
    stops = λ below rest. ap (option_and_then (λ s. read step finish s (take (suc n) words ++ rest))) some ∙ it.stops (omega arith) rest;
    refused = ap (option_and_then (λ s. read step finish s words)) some ∙ it.refused;
  }

  -- from the law that each state can be gone on with
  pub refuses : (completion : S → List (List ℕ)) → ((state : S) → IsSome (read step finish state (completion state))) →
      (state : S) (k : ℕ) (words : List (List ℕ)) (j : ℕ) → outcome step finish state k words ≡ Err j → (n : ℕ) × (j ≡ k + suc n) × Refuses state words n
  refuses completion completes state k [] j h =
      let (none, at) = ending_err k (finish state) j h in (
        0,
        omega (arith, at),
        record { within = omega arith; before = (completion state, completes state); stops = λ below. absurd (omega arith); refused = none },
      )
  refuses completion completes state k (word ∷ words) j h =
      elim (step state word) as (λ o. step state word ≡ o → onward o (k + 1) (λ next. outcome step finish next (k + 1) words) ≡ Err j → (n : ℕ) × (j ≡ k + suc n) × Refuses state (word ∷ words) n) [
        | None ↦ λ none e. (0, cc, refuses_first state word words (completion state) (completes state) none)
        | Some next ↦ λ some e.
            let deeper = refuses completion completes next (k + 1) words j e in
            (suc deeper.0, omega (arith, deeper.1), refuses_later state next word words deeper.0 some deeper.2)
      ] refl h

  -- what is found is what is read
  pub found : (state : S) (k : ℕ) (words : List (List ℕ)) (c : C) → outcome step finish state k words ≡ Ok (Some c) → read step finish state words ≡ Some c
  found state k [] c h = ending_some k (finish state) c h
  found state k (word ∷ words) c h =
      elim (step state word) as (λ o. onward o (k + 1) (λ next. outcome step finish next (k + 1) words) ≡ Ok (Some c) → option_and_then (λ next. read step finish next words) o ≡ Some c) [
        | None ↦ λ e. cc
        | Some next ↦ λ e. found next (k + 1) words c e
      ] h

  -- nothing is found only if there is no word
  pub nothing : (state : S) (k : ℕ) (words : List (List ℕ)) → outcome step finish state k words ≡ Ok None → (k ≡ 0) × (words ≡ [])
  nothing state k [] h = (ending_none k (finish state) h, refl)
  nothing state k (word ∷ words) h =
      elim (step state word) as (λ o. onward o (k + 1) (λ next. outcome step finish next (k + 1) words) ≡ Ok None → (k ≡ 0) × (word ∷ words ≡ [])) [
        | None ↦ λ e. cc
        | Some next ↦ λ e. absurd (omega (arith, (nothing next (k + 1) words e).0))
      ] h
