-- The path of a pin that goes, as the only word.
use Rattle.std.specs.Prelude.{ℕ, List, Option, Some, None}
use Rattle.bt_syntax.specs.declared.unpin.UnpinState.{UnpinState}
use Rattle.bt_syntax.specs.declared.unpin.UnpinState.TheVariants as unpin

abbrev pub unpin_step : UnpinState → List ℕ → Option UnpinState
unpin_step unpin.Path w = Some (unpin.Done w)
unpin_step (unpin.Done path) w = None

abbrev pub unpin_finish : UnpinState → Option (List ℕ)
unpin_finish unpin.Path = None
unpin_finish (unpin.Done path) = Some path
