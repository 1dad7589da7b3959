-- The words of a command on devices, read one at a time.
use Rattle.std.specs.Prelude.{ℕ, if◌then◌else◌, List, [], ◌∷◌, Option, Some, None, codes}
use Rattle.std.specs.Option.{option_map}
use Rattle.std.specs.Str.{bytes_eq}
use Rattle.console_operand.specs.Word.{spelled_by}
use Rattle.bt_syntax.specs.DeviceSteps.{device_step, device_finish}
use Rattle.bt_syntax.specs.AttachSteps.{attach_step, attach_finish}
use Rattle.bt_syntax.specs.declared.device.DeviceState.TheVariants.{Dev}
use Rattle.bt_syntax.specs.declared.net.command.NetCommand.{NetCommand}
use Rattle.bt_syntax.specs.declared.net.command.NetCommand.TheVariants as command
use Rattle.bt_syntax.specs.declared.net.attach.AttachState.TheVariants.{Xdp}
use Rattle.bt_syntax.specs.declared.net.state.NetVerb.{NetVerb}
use Rattle.bt_syntax.specs.declared.net.state.NetVerb.TheVariants as verb
use Rattle.bt_syntax.specs.declared.net.state.DeviceVerb.{DeviceVerb}
use Rattle.bt_syntax.specs.declared.net.state.DeviceVerb.TheVariants as device
use Rattle.bt_syntax.specs.declared.net.state.NetState.{NetState}
use Rattle.bt_syntax.specs.declared.net.state.NetState.TheVariants as net

abbrev pub verb_word : NetVerb → List ℕ
verb_word verb.Show = codes "show"
verb_word verb.List = codes "list"
verb_word verb.Attach = codes "attach"
verb_word verb.Detach = codes "detach"

abbrev pub verbs : List NetVerb
verbs = verb.Show ∷ verb.List ∷ verb.Attach ∷ verb.Detach ∷ []

abbrev pub after_verb : NetVerb → NetState
after_verb verb.Show = net.Show
after_verb verb.List = net.Show
after_verb verb.Attach = net.Attach Xdp
after_verb verb.Detach = net.Detach

abbrev pub of_device : DeviceVerb → List ℕ → NetCommand
of_device device.Show name = command.Show (Some name)
of_device device.Detach name = command.Detach name

abbrev pub detach_step : List ℕ → Option NetState
detach_step w = if bytes_eq w (codes "xdp") then Some (net.Device device.Detach Dev) else None

abbrev pub net_step : NetState → List ℕ → Option NetState
net_step net.Verb w = option_map after_verb (spelled_by verb_word verbs w)
net_step net.Show w = option_map (net.Device device.Show) (device_step Dev w)
net_step net.Detach w = detach_step w
net_step (net.Device v s) w = option_map (net.Device v) (device_step s w)
net_step (net.Attach s) w = option_map net.Attach (attach_step s w)

abbrev pub net_finish : NetState → Option NetCommand
net_finish net.Verb = None
net_finish net.Show = Some (command.Show None)
net_finish net.Detach = None
net_finish (net.Device v s) = option_map (of_device v) (device_finish s)
net_finish (net.Attach s) = attach_finish s
