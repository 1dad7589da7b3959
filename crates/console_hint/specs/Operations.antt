-- What a command asks of one map, by key or item.
use Rattle.std.specs.Prelude.{ℕ, List, length, Option, Some, None}
use Rattle.console_operand.specs.declared.reference.Reference.{Reference}
use Rattle.console_operand.specs.declared.value.Value.{Value}
use Rattle.console_operand.specs.declared.value.Value.TheVariants as value
use Rattle.console_map_syntax.specs.declared.command.MapCommand.{MapCommand}
use Rattle.console_map_syntax.specs.declared.command.MapCommand.TheVariants as command
use Rattle.console_hint.specs.declared.operation.Verb.{Verb}
use Rattle.console_hint.specs.declared.operation.Verb.TheVariants as verb
use Rattle.console_hint.specs.declared.operation.Given.{Given}
use Rattle.console_hint.specs.declared.operation.Given.TheVariants.{Bytes, Id}
use Rattle.console_hint.specs.declared.operation.Operation.{Operation}

-- so many bytes, or an id
abbrev pub given_by : Value (List ℕ) → Given
given_by (value.Data bytes) = Bytes (length bytes)
given_by (value.Object object) = Id

abbrev pub asking : Verb → Option (List ℕ) → Option Given → Operation
asking verb key value = record { verb = verb; key = key; value = value }

-- the map, and what is asked of it; none if a command is on no map or on a whole one
abbrev pub operation_of : MapCommand → Option (Reference (List ℕ) × Operation)
operation_of (command.Show map) = None
operation_of (command.Create path attr name inner_map) = None
operation_of (command.Dump map) = None
operation_of (command.Update map key value flag) = Some (map, asking verb.Update key (Some (given_by value)))
operation_of (command.Lookup map key) = Some (map, asking verb.LookUp key None)
operation_of (command.GetNext map key) = Some (map, asking verb.Next key None)
operation_of (command.Delete map key) = Some (map, asking verb.Delete (Some key) None)
operation_of (command.Peek map) = Some (map, asking verb.Peek None None)
operation_of (command.Push map value) = Some (map, asking verb.Push None (Some (given_by value)))
operation_of (command.Pop map) = Some (map, asking verb.Pop None None)
operation_of (command.Freeze map) = None
operation_of (command.Pin map path) = None
