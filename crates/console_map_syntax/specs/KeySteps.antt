-- The words of a command on a map and a key, read one at a time.
use Rattle.std.specs.Prelude.{ℕ, if◌then◌else◌, List, Option, Some, None, codes}
use Rattle.std.specs.Option.{option_map}
use Rattle.std.specs.Str.{bytes_eq}
use Rattle.console_operand.specs.DataSteps.{no_data, data_step, data_finish}
use Rattle.console_operand.specs.ReferenceSteps.{naming_step}
use Rattle.console_operand.specs.declared.reference.Reference.{Reference}
use Rattle.console_operand.specs.declared.reference.Named.{Named}
use Rattle.console_operand.specs.declared.reference.Named.TheVariants as named
use Rattle.console_map_syntax.specs.declared.command.MapCommand.{MapCommand}
use Rattle.console_map_syntax.specs.declared.command.MapCommand.TheVariants as m
use Rattle.console_map_syntax.specs.declared.key.KeyVerb.{KeyVerb}
use Rattle.console_map_syntax.specs.declared.key.KeyVerb.TheVariants as verb
use Rattle.console_map_syntax.specs.declared.key.KeyState.{KeyState}
use Rattle.console_map_syntax.specs.declared.key.KeyState.TheVariants as key

-- a question may come without a key
abbrev pub without_key : KeyVerb → Reference (List ℕ) → Option MapCommand
without_key verb.Lookup map = Some (m.Lookup map None)
without_key verb.GetNext map = Some (m.GetNext map None)
without_key verb.Delete map = None

abbrev pub of_key : KeyVerb → Reference (List ℕ) → List ℕ → MapCommand
of_key verb.Lookup map bytes = m.Lookup map (Some bytes)
of_key verb.GetNext map bytes = m.GetNext map (Some bytes)
of_key verb.Delete map bytes = m.Delete map bytes

abbrev pub named_keyed : KeyVerb → Named → KeyState
named_keyed v (named.Going n) = key.Map v n
named_keyed v (named.Found map) = key.Given v map

-- what a word in front of the key leads to
abbrev pub front_step : KeyState → List ℕ → Option KeyState
front_step (key.Map v n) w = option_map (named_keyed v) (naming_step n w)
front_step (key.Given v map) w = if bytes_eq w (codes "key") then Some (key.Key v map no_data) else None
front_step (key.Key v map d) w = None

abbrev pub key_step : KeyState → List ℕ → Option KeyState
key_step (key.Map v n) w = option_map (named_keyed v) (naming_step n w)
key_step (key.Given v map) w = if bytes_eq w (codes "key") then Some (key.Key v map no_data) else None
key_step (key.Key v map d) w = option_map (key.Key v map) (data_step d w)

abbrev pub key_finish : KeyState → Option MapCommand
key_finish (key.Map v n) = None
key_finish (key.Given v map) = without_key v map
key_finish (key.Key v map d) = option_map (of_key v map) (data_finish d)
