-- The words of a command on a whole map, read one at a time.
use Rattle.std.specs.Prelude.{ℕ, List, Option, Some, None}
use Rattle.std.specs.Option.{option_map}
use Rattle.console_operand.specs.ReferenceSteps.{naming_step}
use Rattle.console_operand.specs.declared.reference.Reference.{Reference}
use Rattle.console_operand.specs.declared.reference.Naming.TheVariants.{Form}
use Rattle.console_operand.specs.declared.reference.Named.{Named}
use Rattle.console_operand.specs.declared.reference.Named.TheVariants as named
use Rattle.console_map_syntax.specs.declared.command.MapCommand.{MapCommand}
use Rattle.console_map_syntax.specs.declared.command.MapCommand.TheVariants as m
use Rattle.console_map_syntax.specs.declared.whole.WholeVerb.{WholeVerb}
use Rattle.console_map_syntax.specs.declared.whole.WholeVerb.TheVariants as verb
use Rattle.console_map_syntax.specs.declared.whole.WholeState.{WholeState}
use Rattle.console_map_syntax.specs.declared.whole.WholeState.TheVariants as whole

-- `show` alone needs no map
abbrev pub without_map : WholeVerb → Option MapCommand
without_map verb.Show = Some (m.Show None)
without_map verb.Dump = None
without_map verb.Peek = None
without_map verb.Pop = None
without_map verb.Freeze = None

abbrev pub of_map : WholeVerb → Reference (List ℕ) → MapCommand
of_map verb.Show map = m.Show (Some map)
of_map verb.Dump map = m.Dump map
of_map verb.Peek map = m.Peek map
of_map verb.Pop map = m.Pop map
of_map verb.Freeze map = m.Freeze map

abbrev pub named_whole : WholeVerb → Named → WholeState
named_whole v (named.Going n) = whole.Map v n
named_whole v (named.Found map) = whole.Given v map

abbrev pub whole_step : WholeState → List ℕ → Option WholeState
whole_step (whole.Bare v) w = option_map (named_whole v) (naming_step Form w)
whole_step (whole.Map v n) w = option_map (named_whole v) (naming_step n w)
whole_step (whole.Given v map) w = None

abbrev pub whole_finish : WholeState → Option MapCommand
whole_finish (whole.Bare v) = without_map v
whole_finish (whole.Map v n) = None
whole_finish (whole.Given v map) = Some (of_map v map)
