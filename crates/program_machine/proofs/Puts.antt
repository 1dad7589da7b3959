-- What was put in a place, by what the call answers.
use Rattle.std.proofs.Common.{◌≡◌, Option, Some, None, Result, Ok, Err, refl}
use Rattle.std.specs.Prelude.{MatchResult}
use Rattle.program_machine.specs.Held.{Held}
use Rattle.program_machine.specs.Pointers.{IsPut}
use Rattle.program_machine.specs.declared.reason.Reason.{Reason}
use Rattle.program_machine.specs.declared.reason.Reason.TheVariants.{WrongKind}

pub put_by : (o : Option Held) (r : Result (Unit {0}) Reason) (old new : Held) → IsPut o r old new → MatchResult r (λ _. o ≡ Some new) (λ e. (o ≡ None) × (e ≡ WrongKind) × (new ≡ old))
put_by None (Ok u) old new h = absurd cc
put_by None (Err e) old new h = (refl, cc, h.1)
put_by (Some v) (Ok u) old new h = cc
put_by (Some v) (Err e) old new h = absurd cc
