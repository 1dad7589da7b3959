-- What a call that may be refused makes of its place.
use Rattle.std.specs.Prelude.{◌≡◌, Result, Ok, Err}
use Rattle.program_machine.specs.declared.reason.Reason.{Reason}

-- what stands there then, or the reason, and the place is left as it was
abbrev pub IsDone : {A : Type 0} → Result A Reason → Result (Unit {0}) Reason → A → A → Type 0
IsDone (Ok v) result old new = (result ≡ Ok tt) × (new ≡ v)
IsDone (Err reason) result old new = (result ≡ Err reason) × (new ≡ old)
