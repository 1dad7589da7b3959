-- Which of some moments took out a change that was in force before them.
use Rattle.std.specs.Prelude.{◌≡◌, ⊤, ℕ, nat_le, if◌then◌else◌, List, [], ◌∷◌, Option, Some, None}
use Rattle.journal_model.specs.Replay.{Entry}
use Rattle.journal_model.specs.Plain.{Past}
use Rattle.journal_model.specs.Well.{Each}
use Rattle.journal_model.specs.Rebase.{or_else}
use Rattle.journal_model.specs.Force.{is_in_force}
use Rattle.journal_moments.specs.MomentView.{MomentView}

-- the serial of a moment that took out a change whose serial is not above the last
abbrev pub taken_up_to : ℕ → ℕ → Option ℕ → Option ℕ
taken_up_to last serial None = None
taken_up_to last serial (Some out) = if nat_le out last then Some serial else None

-- the serial of the first of these moments that did
abbrev pub first_taken_up_to : ℕ → List MomentView → Option ℕ
first_taken_up_to last [] = None
first_taken_up_to last (m ∷ ms) = or_else (taken_up_to last m.serial m.out) (first_taken_up_to last ms)

-- a change that one of these moments took out is in the list exactly if its serial is at most the last
abbrev pub TakenByAge : ℕ → List Entry → List Past → Type 0
TakenByAge last force later = Each (λ (m : Past). (out : ℕ) → m.out ≡ Some out → is_in_force out force ≡ nat_le out last) later

-- so it is with the list and the serial of the newest of some moments, and later ones
abbrev pub TakenByAgeSince : List Past → List Past → Type 0
TakenByAgeSince [] later = ⊤
TakenByAgeSince (m ∷ ms) later = TakenByAge m.serial m.force later
