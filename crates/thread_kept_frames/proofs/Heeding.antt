-- What was read of an input whose lines are all there.
use Rattle.std.proofs.Common.{◌≡◌, ℕ, ◌==◌, Bool, true, false, List, [], ◌∷◌, length, Option, Some, None, refl, sym, ◌∙◌, ap}
use Rattle.std.specs.Prelude.{if◌then◌else◌}
use Rattle.std.specs.Option.{IfSome}
use Rattle.std.specs.Io.BufRead.{take_through}

-- a text of which no byte was read has none
no_front : (text : List ℕ) → take_through 10 text ≡ [] → text ≡ []
no_front [] none = refl
no_front (byte ∷ text) none = elim (byte == 10) as (λ b. (if b then byte ∷ [] else byte ∷ take_through 10 text) ≡ [] → byte ∷ text ≡ []) [
  | true ↦ λ is. absurd (cc)
  | false ↦ λ is. absurd (cc)
] none

pub at_its_end : (input : Option (List ℕ)) (given : List ℕ) → IfSome input (λ text. given ≡ take_through 10 text) → given ≡ [] → IfSome input (λ text. text ≡ [])
at_its_end None given read none = tt
at_its_end (Some text) given read none = no_front text (sym read ∙ none)
