-- Words that are read: which words they are, and one automaton within another.
use Rattle.std.proofs.Common.{◌≡◌, ℕ, true, false, cond, List, [], ◌∷◌, refl, ◌∙◌, ap, Option, Some, None, IsSome}
use Rattle.std.specs.Option.{option_map, option_and_then}
use Rattle.std.specs.Str.{bytes_eq}
use Rattle.std.proofs.lemmas.Slice.Eq.{bytes_eq-Decides}
use Rattle.console_operand.specs.Word.{spelled_by}
use Rattle.console_operand.specs.Automaton.{read}

-- a thing is spelled by its own word alone
pub spelled_is : {A : Type 0} (spelling : A → List ℕ) (things : List A) (word : List ℕ) (a : A) → spelled_by spelling things word ≡ Some a → word ≡ spelling a
spelled_is spelling [] word a h = cc
spelled_is spelling (thing ∷ things) word a h =
    elim (bytes_eq word (spelling thing)) as (λ b. bytes_eq word (spelling thing) ≡ b → cond b (Some thing) (spelled_by spelling things word) ≡ Some a → word ≡ spelling a) [
      | true ↦ λ same e. let is : thing ≡ a = cc in (bytes_eq-Decides word (spelling thing)).0 same ∙ ap spelling is
      | false ↦ λ _ e. spelled_is spelling things word a e
    ] refl h

-- if something is read on, there was something
pub gone_on : {S C R : Type 0} (o : Option S) (rest : S → Option C) (c : C) → ((s : S) → o ≡ Some s → rest s ≡ Some c → R) → option_and_then rest o ≡ Some c → R
gone_on None rest c go h = cc
gone_on (Some s) rest c go h = go s refl h

pub gone_on_by : {A S C R : Type 0} (o : Option A) (after : A → S) (rest : S → Option C) (c : C) → ((a : A) → o ≡ Some a → rest (after a) ≡ Some c → R) →
    option_and_then rest (option_map after o) ≡ Some c → R
gone_on_by None after rest c go h = cc
gone_on_by (Some a) after rest c go h = go a refl h

pub gone_on_where : {A S C R : Type 0} (o : Option A) (after : A → Option S) (rest : S → Option C) (c : C) →
    ((a : A) → o ≡ Some a → option_and_then rest (after a) ≡ Some c → R) → option_and_then rest (option_and_then after o) ≡ Some c → R
gone_on_where None after rest c go h = cc
gone_on_where (Some a) after rest c go h = go a refl h

pub map_some : {A B R : Type 0} (o : Option A) (f : A → B) (b : B) → ((a : A) → o ≡ Some a → f a ≡ b → R) → option_map f o ≡ Some b → R
map_some None f b go h = cc
map_some (Some a) f b go h = go a refl cc

pub some_map : {A B : Type 0} (f : A → B) (o : Option A) → IsSome o → IsSome (option_map f o)
some_map f None h = cc
some_map f (Some a) h = refl

module _ {S T : Type 0} (f : S → T) where
  -- a step of a part, and what comes after it
  behind_part : {C D : Type 0} (o : Option S) (g : C → D) (part : S → Option C) (whole : T → Option D) → ((s : S) → whole (f s) ≡ option_map g (part s)) →
      option_and_then whole (option_map f o) ≡ option_map g (option_and_then part o)
  behind_part None g part whole same = refl
  behind_part (Some s) g part whole same = same s

  behind_same : {C : Type 0} (o : Option S) (part : S → Option C) (whole : T → Option C) → ((s : S) → whole (f s) ≡ part s) → option_and_then whole (option_map f o) ≡ option_and_then part o
  behind_same None part whole same = refl
  behind_same (Some s) part whole same = same s

-- an automaton that is a part of another
pub read_within : {S T C D : Type 0} (step : S → List ℕ → Option S) (finish : S → Option C) (upper : T → List ℕ → Option T) (upper_finish : T → Option D) (f : S → T) (g : C → D) →
    ((s : S) (word : List ℕ) → upper (f s) word ≡ option_map f (step s word)) → ((s : S) → upper_finish (f s) ≡ option_map g (finish s)) →
    (s : S) (words : List (List ℕ)) → read upper upper_finish (f s) words ≡ option_map g (read step finish s words)
read_within step finish upper upper_finish f g steps finishes s [] = finishes s
read_within step finish upper upper_finish f g steps finishes s (word ∷ words) =
    ap (option_and_then (λ next. read upper upper_finish next words)) (steps s word)
    ∙ behind_part f (step s word) g (λ next. read step finish next words) (λ next. read upper upper_finish next words)
    (λ next. read_within step finish upper upper_finish f g steps finishes next words)

-- the same, with the same commands
pub read_part : {S T C : Type 0} (step : S → List ℕ → Option S) (finish : S → Option C) (upper : T → List ℕ → Option T) (upper_finish : T → Option C) (f : S → T) →
    ((s : S) (word : List ℕ) → upper (f s) word ≡ option_map f (step s word)) → ((s : S) → upper_finish (f s) ≡ finish s) →
    (s : S) (words : List (List ℕ)) → read upper upper_finish (f s) words ≡ read step finish s words
read_part step finish upper upper_finish f steps finishes s [] = finishes s
read_part step finish upper upper_finish f steps finishes s (word ∷ words) =
    ap (option_and_then (λ next. read upper upper_finish next words)) (steps s word)
    ∙ behind_same f (step s word) (λ next. read step finish next words) (λ next. read upper upper_finish next words)
    (λ next. read_part step finish upper upper_finish f steps finishes next words)
