-- The words of a command that pushes a value, read one at a time.
use Rattle.std.specs.Prelude.{ℕ, if◌then◌else◌, List, Option, Some, None, codes}
use Rattle.std.specs.Option.{option_map}
use Rattle.std.specs.Str.{bytes_eq}
use Rattle.console_operand.specs.ReferenceSteps.{naming_step}
use Rattle.console_operand.specs.ValueSteps.{value_step, value_finish}
use Rattle.console_operand.specs.declared.reference.Named.{Named}
use Rattle.console_operand.specs.declared.reference.Named.TheVariants as named
use Rattle.console_operand.specs.declared.value.ValueState.TheVariants.{First}
use Rattle.console_map_syntax.specs.declared.command.MapCommand.{MapCommand}
use Rattle.console_map_syntax.specs.declared.command.MapCommand.TheVariants as m
use Rattle.console_map_syntax.specs.declared.push.PushState.{PushState}
use Rattle.console_map_syntax.specs.declared.push.PushState.TheVariants as push

abbrev pub named_pushing : Named → PushState
named_pushing (named.Going n) = push.Map n
named_pushing (named.Found map) = push.Given map

-- what a word in front of the value leads to
abbrev pub front_step : PushState → List ℕ → Option PushState
front_step (push.Map n) w = option_map named_pushing (naming_step n w)
front_step (push.Given map) w = if bytes_eq w (codes "value") then Some (push.Value map First) else None
front_step (push.Value map s) w = None

abbrev pub push_step : PushState → List ℕ → Option PushState
push_step (push.Map n) w = option_map named_pushing (naming_step n w)
push_step (push.Given map) w = if bytes_eq w (codes "value") then Some (push.Value map First) else None
push_step (push.Value map s) w = option_map (push.Value map) (value_step s w)

abbrev pub push_finish : PushState → Option MapCommand
push_finish (push.Map n) = None
push_finish (push.Given map) = None
push_finish (push.Value map s) = option_map (m.Push map) (value_finish s)
