-- An object and the path at which it is pinned: what is spelled is read, what is read is spelled, and each state can be gone on with.
use Rattle.std.proofs.Common.{◌≡◌, ℕ, List, [], ◌∷◌, ◌++◌, refl, ◌∙◌, ap, subst, Option, Some, IsSome}
use Rattle.std.specs.Prelude.{codes}
use Rattle.console_operand.specs.Automaton.{read}
use Rattle.console_operand.specs.Reference.{IsReference}
use Rattle.console_operand.specs.PinSteps.{named_pin, pin_step, pin_finish}
use Rattle.console_operand.specs.declared.reference.Reference.{Reference}
use Rattle.console_operand.specs.declared.reference.Form.TheVariants as form
use Rattle.console_operand.specs.declared.reference.Naming.TheVariants as n
use Rattle.console_operand.specs.declared.pin.PinState.{PinState}
use Rattle.console_operand.specs.declared.pin.PinState.TheVariants as p
use Rattle.console_operand.proofs.ReferenceRead.{reference_read, reference_spelled, naming_end}

abbrev Pinning : Type 0
Pinning = Reference (List ℕ) × List ℕ

abbrev reads : PinState → List (List ℕ) → Option Pinning
reads state words = read pin_step pin_finish state words

pub pin_read : {name : List (List ℕ)} {it : Reference (List ℕ)} → IsReference name it → (path : List ℕ) → reads (p.Object n.Form) (name ++ path ∷ []) ≡ Some (it, path)
pin_read name path = reference_read pin_step pin_finish named_pin (λ naming w. refl) name (path ∷ [])

-- the words are a reference and a path
pub record IsPinning (words : List (List ℕ)) (it : Reference (List ℕ) × List ℕ) : Type 0 where
  pub name : List (List ℕ)
  pub cut : words ≡ name ++ it.1 ∷ []
  pub is : IsReference name it.0

path_alone : (words : List (List ℕ)) (found : Reference (List ℕ)) (it : Pinning) → reads (p.Path found) words ≡ Some it → (words ≡ it.1 ∷ []) × (found ≡ it.0)
path_alone [] found it h = cc
path_alone (path ∷ []) found it h = let same : (found, path) ≡ it = some_same (found, path) h in (ap (λ x. x.1 ∷ []) same, ap (λ x. x.0) same)
  where
    some_same : (other : Pinning) → Some other ≡ Some it → other ≡ it
    some_same other e = cc
path_alone (path ∷ word ∷ words) found it h = cc

pub pin_spelled : (words : List (List ℕ)) (it : Reference (List ℕ) × List ℕ) → reads (p.Object n.Form) words ≡ Some it → IsPinning words it
pin_spelled words it h =
    let found = reference_spelled pin_step pin_finish named_pin (λ naming w. refl) (λ naming. refl) words it h in
    let (rest, same) = path_alone found.rest found.map it found.behind in
    record { name = found.name; cut = found.cut ∙ ap (λ r. found.name ++ r) rest; is = subst (IsReference found.name) same found.is }

abbrev pub pin_end : PinState → List (List ℕ)
pin_end (p.Object naming) = naming_end naming ++ codes "x" ∷ []
pin_end (p.Path it) = codes "x" ∷ []
pin_end (p.Done it path) = []

pub pin_ends : (state : PinState) → IsSome (reads state (pin_end state))
pin_ends (p.Object n.Form) = refl
pin_ends (p.Object (n.Object form.Id)) = refl
pin_ends (p.Object (n.Object form.Pinned)) = refl
pin_ends (p.Object (n.Object form.Name)) = refl
pin_ends (p.Path it) = refl
pin_ends (p.Done it path) = refl
