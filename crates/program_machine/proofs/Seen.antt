-- What registers hold, by the four lists that they are kept in.
use Rattle.std.proofs.Common.{◌≡◌, ℕ, zero, suc, ◌<◌, List, [], ◌∷◌, length, get_or, set, replicate, inl, inr, refl, ap, sym, ◌∙◌, get_or-set_same, get_or-set_other, arith}
use Rattle.std.specs.Prelude.{true, Option, Some, None}
use Rattle.std.proofs.lemmas.Bool.{cases_eq}
use Rattle.program_machine.specs.Held.{Held, kind_of, number_of, stack_position_of, Number as ANumber}
use Rattle.program_machine.specs.Places.{held_by, paired, held_at}
use Rattle.program_machine.specs.Sorts.{sorted, seen, seen_all, is_apart, AreApart}
use Rattle.program_machine.specs.declared.key.Key.{Key}
use Rattle.program_machine.specs.declared.kind.Kind.{Kind}
use Rattle.program_machine.specs.declared.kind.Kind.TheVariants.{Number as KNumber, Context as KContext, Map as KMap, Stack as KStack, Frame as KFrame, Value as KValue}
use Rattle.program_machine.specs.declared.registers.Sort.{Sort}
use Rattle.program_machine.specs.declared.registers.Sort.TheVariants.{Number, Stack, Other}
use Rattle.program_machine.proofs.Pairs.{paired_get, paired_set, paired_set_left, kind_held}

pub length-paired : {A B C : Type 0} (f : A → B → C) (xs : List A) (ys : List B) → length xs ≡ length ys → length (paired f xs ys) ≡ length xs
unfolding paired
length-paired f [] ys h = refl
length-paired f (x ∷ xs) [] h = absurd (omega (arith, h))
length-paired f (x ∷ xs) (y ∷ ys) h = let more : length (paired f xs ys) ≡ length xs = length-paired f xs ys (omega (arith, h)) in omega (arith, more)

abbrev no_key : Key
no_key = record { size = 0; bytes = [] }

-- what stands in one register
abbrev pub one_seen : List Sort → List ℕ → List Kind → List Key → ℕ → Held
one_seen sorts numbers kinds keys i =
    seen (get_or sorts i Number, get_or numbers i 0) (held_by (get_or kinds i (KNumber 0)) (get_or keys i no_key))

pub seen_there : (sorts : List Sort) (numbers : List ℕ) (kinds : List Kind) (keys : List Key) (i : ℕ) → length sorts ≡ 11 → length numbers ≡ 11 → length kinds ≡ 11 → length keys ≡ 11 → i < 11 → held_at (seen_all sorts numbers kinds keys) i ≡ one_seen sorts numbers kinds keys i
seen_there sorts numbers kinds keys i s n k y h =
    let ps : i < length (paired sorted sorts numbers) = omega (arith, length-paired sorted sorts numbers (s ∙ sym n), s, h) in
    let hs : i < length (paired held_by kinds keys) = omega (arith, length-paired held_by kinds keys (k ∙ sym y), k, h) in
    paired_get seen (paired sorted sorts numbers) (paired held_by kinds keys) i (Number, 0) (ANumber 0) (ANumber 0) ps hs
    ∙ ap (λ (p : Sort × ℕ). seen p (get_or (paired held_by kinds keys) i (ANumber 0))) (paired_get sorted sorts numbers i Number 0 (Number, 0) (omega (arith, s, h)) (omega (arith, n, h)))
    ∙ ap (λ (v : Held). seen (get_or sorts i Number, get_or numbers i 0) v) (paired_get held_by kinds keys i (KNumber 0) no_key (ANumber 0) (omega (arith, k, h)) (omega (arith, y, h)))

-- a number, or a position in the stack, is put
pub seen_set : (sorts : List Sort) (numbers : List ℕ) (kinds : List Kind) (keys : List Key) (i : ℕ) (sort : Sort) (n : ℕ) → seen_all (set sorts i sort) (set numbers i n) kinds keys ≡ set (seen_all sorts numbers kinds keys) i (seen (sort, n) (get_or (paired held_by kinds keys) i (ANumber 0)))
seen_set sorts numbers kinds keys i sort n =
    ap (λ (ps : List (Sort × ℕ)). paired seen ps (paired held_by kinds keys)) (paired_set sorted sorts numbers i sort n)
    ∙ paired_set_left seen (paired sorted sorts numbers) (paired held_by kinds keys) i (sort, n) (ANumber 0)

-- another value is put
pub seen_set_apart : (sorts : List Sort) (numbers : List ℕ) (kinds : List Kind) (keys : List Key) (i : ℕ) (kind : Kind) (key : Key) → seen_all (set sorts i Other) numbers (set kinds i kind) (set keys i key) ≡ set (seen_all sorts numbers kinds keys) i (held_by kind key)
seen_set_apart sorts numbers kinds keys i kind key =
    ap (λ (ps : List (Sort × ℕ)). paired seen ps (paired held_by (set kinds i kind) (set keys i key))) (paired_set_left sorted sorts numbers i Other 0)
    ∙ ap (λ (hs : List Held). paired seen (set (paired sorted sorts numbers) i (Other, get_or numbers i 0)) hs) (paired_set held_by kinds keys i kind key)
    ∙ paired_set seen (paired sorted sorts numbers) (paired held_by kinds keys) i (Other, get_or numbers i 0) (held_by kind key)

-- beside the key that stands there
pub seen_set_kind : (sorts : List Sort) (numbers : List ℕ) (kinds : List Kind) (keys : List Key) (i : ℕ) (kind : Kind) → seen_all (set sorts i Other) numbers (set kinds i kind) keys ≡ set (seen_all sorts numbers kinds keys) i (held_by kind (get_or keys i no_key))
seen_set_kind sorts numbers kinds keys i kind =
    ap (λ (ps : List (Sort × ℕ)). paired seen ps (paired held_by (set kinds i kind) keys)) (paired_set_left sorted sorts numbers i Other 0)
    ∙ ap (λ (hs : List Held). paired seen (set (paired sorted sorts numbers) i (Other, get_or numbers i 0)) hs) (paired_set_left held_by kinds keys i kind no_key)
    ∙ paired_set seen (paired sorted sorts numbers) (paired held_by kinds keys) i (Other, get_or numbers i 0) (held_by kind (get_or keys i no_key))

-- numbers 0, whatever stands apart
pub seen_zeros : (n : ℕ) (apart : List Held) → length apart ≡ n → paired seen (paired sorted (replicate n Number) (replicate n 0)) apart ≡ replicate n (ANumber 0)
unfolding paired
seen_zeros zero [] h = refl
seen_zeros zero (v ∷ vs) h = refl
seen_zeros (suc n) [] h = absurd (omega (arith, h))
seen_zeros (suc n) (v ∷ vs) h = ap (λ (l : List Held). ANumber 0 ∷ l) (seen_zeros n vs (omega (arith, h)))

-- by its kind, with the key that stands beside it
pub seen_whole : (sort : Sort) (n : ℕ) (kind : Kind) (key : Key) → held_by (kind_of (seen (sort, n) (held_by kind key))) key ≡ seen (sort, n) (held_by kind key)
seen_whole Number n kind key = refl
seen_whole Stack n kind key = refl
seen_whole Other n kind key = ap (λ (k : Kind). held_by k key) (kind_held kind key)

-- what kind of value stands in a register
kind_seen : (sorts : List Sort) (numbers : List ℕ) (kinds : List Kind) (keys : List Key) (i : ℕ) (sort : Sort) → length sorts ≡ 11 → length numbers ≡ 11 → length kinds ≡ 11 → length keys ≡ 11 → i < 11 → get_or sorts i Number ≡ sort → kind_of (held_at (seen_all sorts numbers kinds keys) i) ≡ kind_of (seen (sort, get_or numbers i 0) (held_by (get_or kinds i (KNumber 0)) (get_or keys i no_key)))
kind_seen sorts numbers kinds keys i sort s n k y h e =
    ap (λ (v : Held). kind_of v) (seen_there sorts numbers kinds keys i s n k y h)
    ∙ ap (λ (sort : Sort). kind_of (seen (sort, get_or numbers i 0) (held_by (get_or kinds i (KNumber 0)) (get_or keys i no_key)))) e

pub kind_number : (sorts : List Sort) (numbers : List ℕ) (kinds : List Kind) (keys : List Key) (i : ℕ) → length sorts ≡ 11 → length numbers ≡ 11 → length kinds ≡ 11 → length keys ≡ 11 → i < 11 → get_or sorts i Number ≡ Number → KNumber (get_or numbers i 0) ≡ kind_of (held_at (seen_all sorts numbers kinds keys) i)
kind_number sorts numbers kinds keys i s n k y h e = sym (kind_seen sorts numbers kinds keys i Number s n k y h e)

pub kind_stack : (sorts : List Sort) (numbers : List ℕ) (kinds : List Kind) (keys : List Key) (i : ℕ) → length sorts ≡ 11 → length numbers ≡ 11 → length kinds ≡ 11 → length keys ≡ 11 → i < 11 → get_or sorts i Number ≡ Stack → KStack (get_or numbers i 0) ≡ kind_of (held_at (seen_all sorts numbers kinds keys) i)
kind_stack sorts numbers kinds keys i s n k y h e = sym (kind_seen sorts numbers kinds keys i Stack s n k y h e)

pub kind_other : (sorts : List Sort) (numbers : List ℕ) (kinds : List Kind) (keys : List Key) (i : ℕ) → length sorts ≡ 11 → length numbers ≡ 11 → length kinds ≡ 11 → length keys ≡ 11 → i < 11 → get_or sorts i Number ≡ Other → get_or kinds i (KNumber 0) ≡ kind_of (held_at (seen_all sorts numbers kinds keys) i)
kind_other sorts numbers kinds keys i s n k y h e =
    sym (kind_held (get_or kinds i (KNumber 0)) (get_or keys i no_key)) ∙ sym (kind_seen sorts numbers kinds keys i Other s n k y h e)

-- the whole value, by its kind and the key that stands beside it
pub whole_there : (sorts : List Sort) (numbers : List ℕ) (kinds : List Kind) (keys : List Key) (i : ℕ) (kind : Kind) → length sorts ≡ 11 → length numbers ≡ 11 → length kinds ≡ 11 → length keys ≡ 11 → i < 11 → kind ≡ kind_of (held_at (seen_all sorts numbers kinds keys) i) → held_by kind (get_or keys i no_key) ≡ held_at (seen_all sorts numbers kinds keys) i
whole_there sorts numbers kinds keys i kind s n k y h e =
    let there : held_at (seen_all sorts numbers kinds keys) i ≡ one_seen sorts numbers kinds keys i = seen_there sorts numbers kinds keys i s n k y h in
    ap (λ (kind : Kind). held_by kind (get_or keys i no_key)) (e ∙ ap (λ (v : Held). kind_of v) there)
    ∙ seen_whole (get_or sorts i Number) (get_or numbers i 0) (get_or kinds i (KNumber 0)) (get_or keys i no_key)
    ∙ sym there

-- ---- what stands apart
nothing_but : (n i : ℕ) → get_or (replicate n KContext) i KContext ≡ KContext
nothing_but zero i = refl
nothing_but (suc n) zero = refl
nothing_but (suc n) (suc i) = nothing_but n i

pub all_apart : (n : ℕ) → AreApart (replicate n KContext)
all_apart n i h = ap (λ (kind : Kind). is_apart kind) (nothing_but n i)

pub set_apart : (kinds : List Kind) (i : ℕ) (kind : Kind) → length kinds ≡ 11 → i < 11 → AreApart kinds → is_apart kind ≡ true → AreApart (set kinds i kind)
set_apart kinds i kind long within are is k below =
    let here : i < length kinds = omega (arith, long, within) in
    elim (cases_eq k i) [
      | inl same ↦ rw same (ap (λ (kind : Kind). is_apart kind) (get_or-set_same kinds i kind KContext here) ∙ is)
      | inr other ↦ ap (λ (kind : Kind). is_apart kind) (get_or-set_other kinds i k kind KContext other) ∙ are k below
    ]

-- a kind that is neither
pub other_kind : (kind : Kind) → ((n : ℕ) → kind ≡ KNumber n → ⊥) → ((position : ℕ) → kind ≡ KStack position → ⊥) → is_apart kind ≡ true
other_kind (KNumber n) number stack = absurd (number n refl)
other_kind KContext number stack = refl
other_kind (KMap map) number stack = refl
other_kind (KStack position) number stack = absurd (stack position refl)
other_kind (KFrame position) number stack = refl
other_kind (KValue map position) number stack = refl

same_get : (kinds : List Kind) (i : ℕ) (a b : Kind) → i < length kinds → get_or kinds i a ≡ get_or kinds i b
same_get [] i a b h = absurd (omega (arith, h))
same_get (kind ∷ kinds) zero a b h = refl
same_get (kind ∷ kinds) (suc i) a b h = same_get kinds i a b (omega (arith, h))

apart_at : (kinds : List Kind) (i : ℕ) → length kinds ≡ 11 → i < 11 → AreApart kinds → is_apart (get_or kinds i (KNumber 0)) ≡ true
apart_at kinds i long within are =
    ap (λ (kind : Kind). is_apart kind) (same_get kinds i (KNumber 0) KContext (omega (arith, long, within))) ∙ are i within

abbrev pub number_by : Sort → ℕ → Option ℕ
number_by Number n = Some n
number_by Stack n = None
number_by Other n = None

number_apart : (kind : Kind) (key : Key) → is_apart kind ≡ true → number_of (held_by kind key) ≡ None
number_apart (KNumber n) key h = absurd cc
number_apart KContext key h = refl
number_apart (KMap map) key h = refl
number_apart (KStack position) key h = refl
number_apart (KFrame position) key h = refl
number_apart (KValue map position) key h = refl

number_seen : (sort : Sort) (n : ℕ) (kind : Kind) (key : Key) → is_apart kind ≡ true → number_of (seen (sort, n) (held_by kind key)) ≡ number_by sort n
number_seen Number n kind key h = refl
number_seen Stack n kind key h = refl
number_seen Other n kind key h = number_apart kind key h

-- the number that stands in a register, by its sort
pub number_there : (sorts : List Sort) (numbers : List ℕ) (kinds : List Kind) (keys : List Key) (i : ℕ) (sort : Sort) → length sorts ≡ 11 → length numbers ≡ 11 → length kinds ≡ 11 → length keys ≡ 11 → AreApart kinds → i < 11 → get_or sorts i Number ≡ sort → number_by sort (get_or numbers i 0) ≡ number_of (held_at (seen_all sorts numbers kinds keys) i)
number_there sorts numbers kinds keys i sort s n k y are h e =
    ap (λ (sort : Sort). number_by sort (get_or numbers i 0)) (sym e)
    ∙ sym (number_seen (get_or sorts i Number) (get_or numbers i 0) (get_or kinds i (KNumber 0)) (get_or keys i no_key) (apart_at kinds i k h are))
    ∙ ap (λ (v : Held). number_of v) (sym (seen_there sorts numbers kinds keys i s n k y h))

abbrev pub position_by : Sort → ℕ → Option ℕ
position_by Number n = None
position_by Stack n = Some n
position_by Other n = None

position_apart : (kind : Kind) (key : Key) → is_apart kind ≡ true → stack_position_of (held_by kind key) ≡ None
position_apart (KNumber n) key h = refl
position_apart KContext key h = refl
position_apart (KMap map) key h = refl
position_apart (KStack position) key h = absurd cc
position_apart (KFrame position) key h = refl
position_apart (KValue map position) key h = refl

position_seen : (sort : Sort) (n : ℕ) (kind : Kind) (key : Key) → is_apart kind ≡ true → stack_position_of (seen (sort, n) (held_by kind key)) ≡ position_by sort n
position_seen Number n kind key h = refl
position_seen Stack n kind key h = refl
position_seen Other n kind key h = position_apart kind key h

-- and the position in the stack
pub position_there : (sorts : List Sort) (numbers : List ℕ) (kinds : List Kind) (keys : List Key) (i : ℕ) (sort : Sort) → length sorts ≡ 11 → length numbers ≡ 11 → length kinds ≡ 11 → length keys ≡ 11 → AreApart kinds → i < 11 → get_or sorts i Number ≡ sort → position_by sort (get_or numbers i 0) ≡ stack_position_of (held_at (seen_all sorts numbers kinds keys) i)
position_there sorts numbers kinds keys i sort s n k y are h e =
    ap (λ (sort : Sort). position_by sort (get_or numbers i 0)) (sym e)
    ∙ sym (position_seen (get_or sorts i Number) (get_or numbers i 0) (get_or kinds i (KNumber 0)) (get_or keys i no_key) (apart_at kinds i k h are))
    ∙ ap (λ (v : Held). stack_position_of v) (sym (seen_there sorts numbers kinds keys i s n k y h))

pub no_number : (sort : Sort) (n : ℕ) → (sort ≡ Number → ⊥) → None ≡ number_by sort n
no_number Number n h = absurd (h refl)
no_number Stack n h = refl
no_number Other n h = refl

pub no_position : (sort : Sort) (n : ℕ) → (sort ≡ Stack → ⊥) → None ≡ position_by sort n
no_position Number n h = refl
no_position Stack n h = absurd (h refl)
no_position Other n h = refl
