-- What an exchange does to the roots: it puts one entry in place, and then holds what stood there.
use Rattle.std.specs.Prelude.{◌≡◌, ◌+◌, ℕ, zero, suc, Bool, true, List, [], ◌∷◌, Option, Some, None, length, nat_lt}
use Rattle.std.specs.Option.{option_map}
use Rattle.std.specs.FinMap as map
use Rattle.std.specs.FinSet as set
use Rattle.bt_roots.specs.declared.target.Target.{Target}
use Rattle.bt_roots.specs.declared.target.Target.TheVariants.{Prog}
use Rattle.bt_roots.specs.declared.device.Device.{Device}
use Rattle.bt_roots.specs.declared.back.RootBack.{RootBack}
use Rattle.bt_roots.specs.declared.back.RootBack.TheVariants.{Pin, Attachment}
use Rattle.bt_roots.specs.View.{Pins, RootsView, position_of}

-- the pins with this object at the path, or with nothing there
abbrev pub put_at : Pins → List ℕ → Option Target → Pins
put_at pins path None = map.remove pins path
put_at pins path (Some target) = map.insert pins path target

-- the program of the device at the position
abbrev pub prog_at : List Device → ℕ → Option ℕ
prog_at [] position = None
prog_at (device ∷ devices) zero = device.prog
prog_at (device ∷ devices) (suc position) = prog_at devices position

-- the ifindex of the device of the name, which is its position plus 1, and its program
abbrev pub device_named : List Device → List ℕ → Option (ℕ × Option ℕ)
device_named devices name = option_map (λ position. (position + 1, prog_at devices position)) (position_of devices name)

-- the devices with this program, or none, at the position
abbrev pub attach_at : List Device → ℕ → Option ℕ → List Device
attach_at [] position prog = []
attach_at (device ∷ devices) zero prog = record device { prog = prog } ∷ devices
attach_at (device ∷ devices) (suc position) prog = device ∷ attach_at devices position prog

-- whether an exchange can be turned: its path has room, or its device exists
unfoldable pub exchange_fits : RootsView → RootBack → Bool
exchange_fits roots (Pin path target) = set.contains roots.room path
exchange_fits roots (Attachment position prog) = nat_lt position (length roots.devices)

-- what a turning leaves: the roots, and the exchange, which then means what stood there
unfoldable pub exchanged : RootsView → RootBack → RootsView × RootBack
exchanged roots (Pin path target) =
    (record roots { pins = put_at roots.pins path target }, Pin path (map.get roots.pins path))
exchanged roots (Attachment position prog) =
    (record roots { devices = attach_at roots.devices position prog }, Attachment position (prog_at roots.devices position))

-- the object that an exchange puts in place
abbrev pub target_of : RootBack → Option Target
target_of (Pin path target) = target
target_of (Attachment position prog) = option_map Prog prog

-- an exchange that is turned twice leaves what was there
abbrev pub TurnsBack : RootsView → RootBack → Type 0
TurnsBack roots back = exchange_fits roots back ≡ true → exchanged (exchanged roots back).0 (exchanged roots back).1 ≡ (roots, back)

-- the paths with room stay so, and the devices stay in their places
pub record KeepsRoom (old new : RootsView) : Type 0 where
  pub paths : (path : List ℕ) → set.contains old.room path ≡ true → set.contains new.room path ≡ true
  pub places : length new.devices ≡ length old.devices
