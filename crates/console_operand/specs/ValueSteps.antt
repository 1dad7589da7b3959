-- VALUE read a word at a time.
use Rattle.std.specs.Prelude.{ℕ, List, Option, Some, None}
use Rattle.std.specs.Option.{option_map}
use Rattle.console_operand.specs.Word.{spelled_by}
use Rattle.console_operand.specs.DataSteps.{no_data, data_step, data_finish}
use Rattle.console_operand.specs.ReferenceSteps.{form_word, forms, naming_step}
use Rattle.console_operand.specs.declared.reference.Form.{Form}
use Rattle.console_operand.specs.declared.reference.Naming.TheVariants as n
use Rattle.console_operand.specs.declared.reference.Named.{Named}
use Rattle.console_operand.specs.declared.reference.Named.TheVariants as named
use Rattle.console_operand.specs.declared.value.Value.{Value}
use Rattle.console_operand.specs.declared.value.Value.TheVariants as value
use Rattle.console_operand.specs.declared.value.ValueState.{ValueState}
use Rattle.console_operand.specs.declared.value.ValueState.TheVariants as v

abbrev pub named_value : Named → ValueState
named_value (named.Going n) = v.Object n
named_value (named.Found it) = v.Found it

-- the first word is that of a reference, or of DATA
abbrev pub begun_by : Option Form → List ℕ → Option ValueState
begun_by (Some form) w = Some (v.Object (n.Object form))
begun_by None w = option_map v.Data (data_step no_data w)

abbrev pub first_step : List ℕ → Option ValueState
first_step w = begun_by (spelled_by form_word forms w) w

-- what one more word makes of VALUE; none if the word is no part of it
abbrev pub value_step : ValueState → List ℕ → Option ValueState
value_step v.First w = first_step w
value_step (v.Data d) w = option_map v.Data (data_step d w)
value_step (v.Object n) w = option_map named_value (naming_step n w)
value_step (v.Found it) w = None

-- the value, if it may end
abbrev pub value_finish : ValueState → Option (Value (List ℕ))
value_finish v.First = None
value_finish (v.Data d) = option_map value.Data (data_finish d)
value_finish (v.Object n) = None
value_finish (v.Found it) = Some (value.Object it)
