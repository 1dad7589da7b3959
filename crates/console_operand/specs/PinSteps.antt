-- An object and the path at which it is pinned, read a word at a time.
use Rattle.std.specs.Prelude.{ℕ, List, Option, Some, None}
use Rattle.std.specs.Option.{option_map}
use Rattle.console_operand.specs.ReferenceSteps.{naming_step}
use Rattle.console_operand.specs.declared.reference.Reference.{Reference}
use Rattle.console_operand.specs.declared.reference.Named.{Named}
use Rattle.console_operand.specs.declared.reference.Named.TheVariants as named
use Rattle.console_operand.specs.declared.pin.PinState.{PinState}
use Rattle.console_operand.specs.declared.pin.PinState.TheVariants as pin

abbrev pub named_pin : Named → PinState
named_pin (named.Going n) = pin.Object n
named_pin (named.Found it) = pin.Path it

abbrev pub pin_step : PinState → List ℕ → Option PinState
pin_step (pin.Object n) w = option_map named_pin (naming_step n w)
pin_step (pin.Path it) w = Some (pin.Done it w)
pin_step (pin.Done it path) w = None

-- the object and its path
abbrev pub pin_finish : PinState → Option (Reference (List ℕ) × List ℕ)
pin_finish (pin.Object n) = None
pin_finish (pin.Path it) = None
pin_finish (pin.Done it path) = Some (it, path)
