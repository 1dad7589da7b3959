-- What is made of two lists, element by element.
use Rattle.std.proofs.Common.{◌≡◌, ℕ, zero, suc, ◌-◌, ◌<◌, ◌≤◌, List, [], ◌∷◌, length, get_or, set, take, drop, replicate, refl, ap, sym, ◌∙◌, arith}
use Rattle.std.specs.Prelude.{true, Option, Some, None, is_none, slice_range}
use Rattle.std.specs.List.{list_all}
use Rattle.std.proofs.lemmas.Grind.{common_steps}
use Rattle.program_machine.specs.Held.{Held, held, kind_of, key_of, is_bare, Number as ANumber}
use Rattle.program_machine.specs.Places.{held_by, kept_by, paired, held_at, kept_in}
use Rattle.program_machine.specs.declared.key.Key.{Key}
use Rattle.program_machine.specs.declared.kind.Kind.{Kind}
use Rattle.program_machine.specs.declared.kind.Kind.TheVariants.{Number, Context, Map, Stack, Frame, Value}

pub paired_get : {A B C : Type 0} (f : A → B → C) (xs : List A) (ys : List B) (i : ℕ) (a : A) (b : B) (c : C) → i < length xs → i < length ys → get_or (paired f xs ys) i c ≡ f (get_or xs i a) (get_or ys i b)
unfolding paired
paired_get f [] ys i a b c h k = absurd (omega (arith, h))
paired_get f (x ∷ xs) [] i a b c h k = absurd (omega (arith, k))
paired_get f (x ∷ xs) (y ∷ ys) zero a b c h k = refl
paired_get f (x ∷ xs) (y ∷ ys) (suc i) a b c h k = paired_get f xs ys i a b c (omega (arith, h)) (omega (arith, k))

pub paired_set : {A B C : Type 0} (f : A → B → C) (xs : List A) (ys : List B) (i : ℕ) (x : A) (y : B) → paired f (set xs i x) (set ys i y) ≡ set (paired f xs ys) i (f x y)
unfolding paired
paired_set f [] ys i x y = refl
paired_set f (a ∷ xs) [] zero x y = refl
paired_set f (a ∷ xs) [] (suc i) x y = refl
paired_set f (a ∷ xs) (b ∷ ys) zero x y = refl
paired_set f (a ∷ xs) (b ∷ ys) (suc i) x y = ap (λ cs. f a b ∷ cs) (paired_set f xs ys i x y)

pub paired_set_left : {A B C : Type 0} (f : A → B → C) (xs : List A) (ys : List B) (i : ℕ) (x : A) (b : B) → paired f (set xs i x) ys ≡ set (paired f xs ys) i (f x (get_or ys i b))
unfolding paired
paired_set_left f [] ys i x b = refl
paired_set_left f (a ∷ xs) [] zero x b = refl
paired_set_left f (a ∷ xs) [] (suc i) x b = refl
paired_set_left f (a ∷ xs) (y ∷ ys) zero x b = refl
paired_set_left f (a ∷ xs) (y ∷ ys) (suc i) x b = ap (λ cs. f a y ∷ cs) (paired_set_left f xs ys i x b)

pub paired_replicate : {A B C : Type 0} (f : A → B → C) (n : ℕ) (a : A) (b : B) → paired f (replicate n a) (replicate n b) ≡ replicate n (f a b)
unfolding paired
paired_replicate f zero a b = refl
paired_replicate f (suc n) a b = ap (λ cs. f a b ∷ cs) (paired_replicate f n a b)

paired_none : {A B C : Type 0} (f : A → B → C) (xs : List A) → paired f xs [] ≡ []
unfolding paired
paired_none f [] = refl
paired_none f (a ∷ xs) = refl

paired_drop : {A B C : Type 0} (f : A → B → C) (n : ℕ) (xs : List A) (ys : List B) → drop n (paired f xs ys) ≡ paired f (drop n xs) (drop n ys)
unfolding paired
paired_drop f zero xs ys = refl
paired_drop f (suc n) [] ys = refl
paired_drop f (suc n) (a ∷ xs) [] = sym (paired_none f (drop n xs))
paired_drop f (suc n) (a ∷ xs) (b ∷ ys) = paired_drop f n xs ys

paired_take : {A B C : Type 0} (f : A → B → C) (n : ℕ) (xs : List A) (ys : List B) → take n (paired f xs ys) ≡ paired f (take n xs) (take n ys)
unfolding paired
paired_take f zero xs ys = refl
paired_take f (suc n) [] ys = refl
paired_take f (suc n) (a ∷ xs) [] = refl
paired_take f (suc n) (a ∷ xs) (b ∷ ys) = ap (λ cs. f a b ∷ cs) (paired_take f n xs ys)

all_none : (kinds : List (Option Kind)) (keys : List Key) → length kinds ≤ length keys → list_all is_none (paired kept_by kinds keys) ≡ list_all is_none kinds
unfolding paired
all_none [] keys h = refl
all_none (kind ∷ kinds) [] h = absurd (omega (arith, h))
all_none (None ∷ kinds) (key ∷ keys) h = all_none kinds keys (omega (arith, h))
all_none (Some kind ∷ kinds) (key ∷ keys) h = refl

pub all_none_within : (kinds : List (Option Kind)) (keys : List Key) (first end : ℕ) → length kinds ≡ length keys → list_all is_none (slice_range (paired kept_by kinds keys) first end) ≡ list_all is_none (slice_range kinds first end)
all_none_within kinds keys first end h =
    ap (λ words. list_all is_none (take (end - first) words)) (paired_drop kept_by first kinds keys)
    ∙ ap (λ words. list_all is_none words) (paired_take kept_by (end - first) (drop first kinds) (drop first keys))
    ∙ all_none (take (end - first) (drop first kinds)) (take (end - first) (drop first keys)) (grind (arith, common_steps, h))

pub paired_nothing : (n : ℕ) (keys : List Key) → length keys ≡ n → paired kept_by (replicate n None) keys ≡ replicate n None
unfolding paired
paired_nothing zero [] h = refl
paired_nothing zero (key ∷ keys) h = refl
paired_nothing (suc n) [] h = absurd (omega (arith, h))
paired_nothing (suc n) (key ∷ keys) h = ap (λ cs. None ∷ cs) (paired_nothing n keys (omega (arith, h)))

pub kind_held : (kind : Kind) (key : Key) → kind_of (held_by kind key) ≡ kind
kind_held (Number n) key = refl
kind_held Context key = refl
kind_held (Map map) key = refl
kind_held (Stack position) key = refl
kind_held (Frame position) key = refl
kind_held (Value map position) key = refl

-- a kind without a key holds the same whatever bytes stand beside it
pub bare_held : (kind : Kind) (key : List ℕ) → is_bare kind ≡ true → held kind key ≡ held kind []
bare_held (Number n) key h = refl
bare_held Context key h = refl
bare_held (Map map) key h = refl
bare_held (Stack position) key h = refl
bare_held (Frame position) key h = refl
bare_held (Value map position) key h = absurd cc

-- what has no key of its own
pub no_key : (kind : Kind) (key : Key) → ((map position : ℕ) → kind ≡ Value map position → ⊥) → [] ≡ key_of (held_by kind key)
no_key (Number n) key h = refl
no_key Context key h = refl
no_key (Map map) key h = refl
no_key (Stack position) key h = refl
no_key (Frame position) key h = refl
no_key (Value map position) key h = absurd (h map position refl)

abbrev nothing : Key
nothing = record { size = 0; bytes = [] }

-- what stands at a place, by the two lists
pub held_there : (kinds : List Kind) (keys : List Key) (i : ℕ) → i < length kinds → i < length keys → held_at (paired held_by kinds keys) i ≡ held_by (get_or kinds i (Number 0)) (get_or keys i nothing)
held_there kinds keys i h k = paired_get held_by kinds keys i (Number 0) nothing (ANumber 0) h k

pub kept_there : (kinds : List (Option Kind)) (keys : List Key) (i : ℕ) → i < length kinds → i < length keys → kept_in (paired kept_by kinds keys) i ≡ kept_by (get_or kinds i None) (get_or keys i nothing)
kept_there kinds keys i h k = paired_get kept_by kinds keys i None nothing None h k

is_none_kept : (kind : Option Kind) (key : Key) → is_none (kept_by kind key) ≡ is_none kind
is_none_kept None key = refl
is_none_kept (Some kind) key = refl

pub none_there : (kinds : List (Option Kind)) (keys : List Key) (i : ℕ) → i < length kinds → i < length keys → is_none (kept_in (paired kept_by kinds keys) i) ≡ is_none (get_or kinds i None)
none_there kinds keys i h k =
    ap (λ (o : Option Held). is_none o) (kept_there kinds keys i h k) ∙ is_none_kept (get_or kinds i None) (get_or keys i nothing)
