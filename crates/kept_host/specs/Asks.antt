-- Lines that only ask.
use Rattle.std.specs.Prelude.{ℕ, Bool, true, false, List, Option, Some, None, Result, Ok, Err}
use Rattle.std.specs.List.{list_all}
use Rattle.console_map_syntax.specs.declared.command.MapCommand.{MapCommand}
use Rattle.console_map_syntax.specs.declared.command.MapCommand.TheVariants as m
use Rattle.bt_syntax.specs.Steps.{line_read}
use Rattle.bt_syntax.specs.declared.command.Command.{Command}
use Rattle.bt_syntax.specs.declared.command.Command.TheVariants as c
use Rattle.bt_syntax.specs.declared.fault.SyntaxFault.{SyntaxFault}
use Rattle.bt_syntax.specs.declared.journal.JournalCommand.TheVariants as j
use Rattle.bt_syntax.specs.declared.net.command.NetCommand.TheVariants as n
use Rattle.bt_syntax.specs.declared.prog.command.ProgCommand.{ProgCommand}
use Rattle.bt_syntax.specs.declared.prog.command.ProgCommand.TheVariants as p

abbrev pub map_asks : MapCommand → Bool
map_asks (m.Show map) = true
map_asks (m.Dump map) = true
map_asks (m.Lookup map key) = true
map_asks (m.GetNext map key) = true
map_asks (m.Peek map) = true
map_asks _ = false

abbrev pub prog_asks : ProgCommand → Bool
prog_asks (p.Show prog) = true
prog_asks (p.Dump prog) = true
prog_asks _ = false

abbrev pub command_asks : Command → Bool
command_asks (c.Map command) = map_asks command
command_asks (c.Prog command) = prog_asks command
command_asks (c.Net (n.Show device)) = true
command_asks (c.Journal j.List) = true
command_asks _ = false

-- a line that is no command changes nothing either
abbrev pub line_asks : Result (Option Command) SyntaxFault → Bool
line_asks (Ok (Some command)) = command_asks command
line_asks (Ok None) = true
line_asks (Err fault) = true

abbrev pub only_ask : List (List ℕ) → Bool
only_ask lines = list_all (λ line. line_asks (line_read line)) lines
