-- A device's name after `dev`, read a word at a time.
use Rattle.std.specs.Prelude.{ℕ, if◌then◌else◌, List, Option, Some, None, codes}
use Rattle.std.specs.Str.{bytes_eq}
use Rattle.bt_syntax.specs.declared.device.DeviceState.{DeviceState}
use Rattle.bt_syntax.specs.declared.device.DeviceState.TheVariants as dev

abbrev pub device_step : DeviceState → List ℕ → Option DeviceState
device_step dev.Dev w = if bytes_eq w (codes "dev") then Some dev.Name else None
device_step dev.Name w = Some (dev.Found w)
device_step (dev.Found name) w = None

abbrev pub device_finish : DeviceState → Option (List ℕ)
device_finish dev.Dev = None
device_finish dev.Name = None
device_finish (dev.Found name) = Some name
