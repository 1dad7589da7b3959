-- A device's name after `dev`: what is read is spelled, and each state can be gone on with.
use Rattle.std.proofs.Common.{◌≡◌, ℕ, List, [], ◌∷◌, refl, ◌∙◌, ap, Some, IsSome}
use Rattle.std.specs.Prelude.{codes}
use Rattle.console_operand.specs.Automaton.{read}
use Rattle.bt_syntax.specs.DeviceSteps.{device_step, device_finish}
use Rattle.bt_syntax.specs.declared.device.DeviceState.{DeviceState}
use Rattle.bt_syntax.specs.declared.device.DeviceState.TheVariants as d
use Rattle.console_operand.proofs.WordsRead.{literal, any_word, no_word}

pub device_spelled : (words : List (List ℕ)) (name : List ℕ) → read device_step device_finish d.Dev words ≡ Some name → words ≡ codes "dev" ∷ name ∷ []
device_spelled words name h =
    literal device_step device_finish d.Dev d.Name (codes "dev") words name (λ w. refl) refl (λ rest cut named.
    any_word device_step device_finish d.Name d.Found rest name (λ w. refl) refl (λ word last there found.
    let (none, same) = no_word device_step device_finish (d.Found word) word last name (λ w. refl) refl found in
    cut ∙ ap (λ ws. codes "dev" ∷ ws) (there ∙ ap (λ ws. word ∷ ws) none ∙ ap (λ w. w ∷ []) same)) named) h

abbrev pub device_end : DeviceState → List (List ℕ)
device_end d.Dev = codes "dev" ∷ codes "x" ∷ []
device_end d.Name = codes "x" ∷ []
device_end (d.Found name) = []

pub device_ends : (state : DeviceState) → IsSome (read device_step device_finish state (device_end state))
device_ends d.Dev = refl
device_ends d.Name = refl
device_ends (d.Found name) = refl
