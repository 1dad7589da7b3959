-- Words read one at a time: a state, what one more word makes of it, and what it comes to where the words end.
use Rattle.std.specs.Prelude.{◌≡◌, ℕ, ◌+◌, ◌==◌, Bool, true, false, if◌then◌else◌, List, [], ◌∷◌, ◌++◌, length, Option, Some, None, Result, Ok, Err}
use Rattle.std.specs.Option.{option_and_then}

-- a state for which this is next goes on, and to that; or it can't
abbrev pub GoesOn : {S : Type 0} → Bool → Option S → S → Type 0
GoesOn true next now = next ≡ Some now
GoesOn false next now = next ≡ None

abbrev pub found_at : {C : Type 0} → ℕ → Option C → Result (Option C) ℕ
found_at k None = Err (k + 1)
found_at k (Some c) = Ok (Some c)

-- the end of a line of k words
abbrev pub ending : {C : Type 0} → ℕ → Option C → Result (Option C) ℕ
ending k found = if k == 0 then Ok None else found_at k found

abbrev pub onward : {S C : Type 0} → Option S → ℕ → (S → Result (Option C) ℕ) → Result (Option C) ℕ
onward None k rest = Err k
onward (Some next) k rest = rest next

module _ {S C : Type 0} (step : S → List ℕ → Option S) (finish : S → Option C) where
  -- what the words after a state come to
  abbrev pub read : S → List (List ℕ) → Option C
  read state [] = finish state
  read state (word ∷ words) = option_and_then (λ next. read next words) (step state word)

  -- what the words come to after a state to which k words led, or the number of the first word that can't stand there
  abbrev pub outcome : S → ℕ → List (List ℕ) → Result (Option C) ℕ
  outcome state k [] = ending k (finish state)
  outcome state k (word ∷ words) = onward (step state word) (k + 1) (λ next. outcome next (k + 1) words)

-- a line of which so many words were read, and the words that are left
pub record Reading : Type 0 where
  pub count : ℕ
  pub left : List (List ℕ)

-- the next word of a line is taken
pub record TakesWord (before : Reading) (word : List ℕ) (after : Reading) : Type 0 where
  pub left : before.left ≡ word ∷ after.left
  pub count : after.count ≡ before.count + 1

module _ {S : Type 0} (step : S → List ℕ → Option S) where
  -- the words lead from one state to another
  abbrev pub Leads : S → List (List ℕ) → S → Type 0
  Leads s [] end = s ≡ end
  Leads s (word ∷ words) end = (next : S) × (step s word ≡ Some next) × Leads next words end

  -- the next words of a line, as many as were taken, lead from one state to another
  pub record Takes (old : S) (before : Reading) (new : S) (after : Reading) : Type 0 where
    pub front : List (List ℕ)
    pub leads : Leads old front new
    pub cut : before.left ≡ front ++ after.left
    pub count : before.count + length front ≡ after.count

  -- a state reads a word, and words that come after it; or it can't
  abbrev pub GoesOver : Bool → S → List ℕ → Reading → S → Reading → Type 0
  GoesOver true old word before new after = (next : S) × (step old word ≡ Some next) × Takes next before new after
  GoesOver false old word before new after = step old word ≡ None
