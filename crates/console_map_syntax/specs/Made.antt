-- The map that a command makes.
use Rattle.std.specs.Prelude.{if◌then◌else◌, Option, Some, None}
use Rattle.bt_mapkind.specs.Attributes.{good}
use Rattle.bt_mapkind.specs.declared.attr.MapAttr.{MapAttr}
use Rattle.console_map_syntax.specs.declared.command.MapCommand.{MapCommand}
use Rattle.console_map_syntax.specs.declared.command.MapCommand.TheVariants as m

-- the map that a command makes: a `map create` needs one if its attributes are good
abbrev pub map_made : MapCommand → Option MapAttr
map_made (m.Create path attr name inner) = if good attr then Some attr else None
map_made (m.Show map) = None
map_made (m.Dump map) = None
map_made (m.Update map key value flag) = None
map_made (m.Lookup map key) = None
map_made (m.GetNext map key) = None
map_made (m.Delete map key) = None
map_made (m.Peek map) = None
map_made (m.Push map value) = None
map_made (m.Pop map) = None
map_made (m.Freeze map) = None
map_made (m.Pin map path) = None
