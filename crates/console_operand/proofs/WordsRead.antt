-- Single words that are read: those that have to stand where they do, and those that may be any.
use Rattle.std.proofs.Common.{◌≡◌, ℕ, true, false, cond, List, [], ◌∷◌, refl, sym, ◌∙◌, ap, Option, Some, None}
use Rattle.std.specs.Option.{option_map, option_and_then}
use Rattle.std.specs.Str.{bytes_eq}
use Rattle.std.proofs.lemmas.Slice.Eq.{bytes_eq-Decides}
use Rattle.console_operand.specs.Automaton.{read}
use Rattle.console_operand.proofs.Reading.{gone_on_by}

module _ {S C : Type 0} (step : S → List ℕ → Option S) (finish : S → Option C) where
  -- this word alone may stand here
  pub first_literal : {R : Type 0} (s next : S) (it word : List ℕ) (words : List (List ℕ)) (c : C) → ((w : List ℕ) → step s w ≡ cond (bytes_eq w it) (Some next) None) →
      (word ≡ it → read step finish next words ≡ Some c → R) → read step finish s (word ∷ words) ≡ Some c → R
  first_literal {R} s next it word words c steps go h =
      elim (bytes_eq word it) as (λ b. bytes_eq word it ≡ b → option_and_then (λ n. read step finish n words) (cond b (Some next) None) ≡ Some c → R) [
        | true ↦ λ same e. go ((bytes_eq-Decides word it).0 same) e
        | false ↦ λ _ e. cc
      ] refl (sym (ap (option_and_then (λ n. read step finish n words)) (steps word)) ∙ h)

  -- and has to
  pub literal : {R : Type 0} (s next : S) (it : List ℕ) (words : List (List ℕ)) (c : C) → ((w : List ℕ) → step s w ≡ cond (bytes_eq w it) (Some next) None) → finish s ≡ None →
      ((rest : List (List ℕ)) → words ≡ it ∷ rest → read step finish next rest ≡ Some c → R) → read step finish s words ≡ Some c → R
  literal s next it [] c steps none go h = cc
  literal s next it (word ∷ words) c steps none go h = first_literal s next it word words c steps (λ same more. go words (ap (λ w. w ∷ words) same) more) h

  -- any word may stand here that spells something
  pub parsed : {A R : Type 0} (s : S) (parse : List ℕ → Option A) (next : A → S) (words : List (List ℕ)) (c : C) → ((w : List ℕ) → step s w ≡ option_map next (parse w)) → finish s ≡ None →
      ((word : List ℕ) (rest : List (List ℕ)) (a : A) → words ≡ word ∷ rest → parse word ≡ Some a → read step finish (next a) rest ≡ Some c → R) → read step finish s words ≡ Some c → R
  parsed s parse next [] c steps none go h = cc
  parsed s parse next (word ∷ words) c steps none go h =
      gone_on_by (parse word) next (λ n. read step finish n words) c (λ a is more. go word words a refl is more)
      (sym (ap (option_and_then (λ n. read step finish n words)) (steps word)) ∙ h)

  -- any word may stand here
  pub any_word : {R : Type 0} (s : S) (next : List ℕ → S) (words : List (List ℕ)) (c : C) → ((w : List ℕ) → step s w ≡ Some (next w)) → finish s ≡ None →
      ((word : List ℕ) (rest : List (List ℕ)) → words ≡ word ∷ rest → read step finish (next word) rest ≡ Some c → R) → read step finish s words ≡ Some c → R
  any_word s next [] c steps none go h = cc
  any_word s next (word ∷ words) c steps none go h =
      go word words refl (sym (ap (option_and_then (λ n. read step finish n words)) (steps word)) ∙ h)

  -- no word may stand here
  pub no_word : (s : S) (found : C) (words : List (List ℕ)) (c : C) → ((w : List ℕ) → step s w ≡ None) → finish s ≡ Some found → read step finish s words ≡ Some c → (words ≡ []) × (found ≡ c)
  no_word s found [] c steps done h = (refl, some_same (sym done ∙ h))
    where
      some_same : Some found ≡ Some c → found ≡ c
      some_same e = cc
  no_word s found (word ∷ words) c steps done h = let none = steps word in cc
