-- The words of `net attach`, read one at a time.
use Rattle.std.specs.Prelude.{ℕ, true, false, if◌then◌else◌, List, Option, Some, None, codes}
use Rattle.std.specs.Option.{option_map}
use Rattle.std.specs.Str.{bytes_eq}
use Rattle.console_operand.specs.ReferenceSteps.{naming_step}
use Rattle.console_operand.specs.declared.reference.Naming.TheVariants.{Form}
use Rattle.console_operand.specs.declared.reference.Named.{Named}
use Rattle.console_operand.specs.declared.reference.Named.TheVariants as named
use Rattle.bt_syntax.specs.declared.net.command.NetCommand.{NetCommand}
use Rattle.bt_syntax.specs.declared.net.command.NetCommand.TheVariants as command
use Rattle.bt_syntax.specs.declared.net.attach.AttachState.{AttachState}
use Rattle.bt_syntax.specs.declared.net.attach.AttachState.TheVariants as a

abbrev pub named_attach : Named → AttachState
named_attach (named.Going n) = a.Prog n
named_attach (named.Found prog) = a.Given prog

abbrev pub attach_step : AttachState → List ℕ → Option AttachState
attach_step a.Xdp w = if bytes_eq w (codes "xdp") then Some (a.Prog Form) else None
attach_step (a.Prog n) w = option_map named_attach (naming_step n w)
attach_step (a.Given prog) w = if bytes_eq w (codes "dev") then Some (a.Name prog) else None
attach_step (a.Name prog) w = Some (a.Device prog w)
attach_step (a.Device prog device) w = if bytes_eq w (codes "overwrite") then Some (a.Overwrite prog device) else None
attach_step (a.Overwrite prog device) w = None

abbrev pub attach_finish : AttachState → Option NetCommand
attach_finish a.Xdp = None
attach_finish (a.Prog n) = None
attach_finish (a.Given prog) = None
attach_finish (a.Name prog) = None
attach_finish (a.Device prog device) = Some (command.Attach prog device false)
attach_finish (a.Overwrite prog device) = Some (command.Attach prog device true)
