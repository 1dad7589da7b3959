-- How a proof tells two views of the roots apart: as the triple of their parts.
use Rattle.std.specs.Prelude.{List, refl}
use Rattle.std.specs.Coded.{Coded, code_by, coded×, coded_ℕ, coded_list}
use Rattle.std.specs.FinMap as map
use Rattle.std.specs.FinSet as set
use Rattle.bt_roots.specs.contracts.target.Target as target
use Rattle.bt_roots.specs.contracts.device.Device as device
use Rattle.bt_roots.specs.declared.device.Device.{Device}
use Rattle.bt_roots.specs.View.{RootsView, Pins, Paths}

abbrev pub view_code : Coded RootsView
view_code =
    code_by (Pins × (List Device × Paths))
    (coded× (map.code (coded_list coded_ℕ) target.the_row.coded) (coded× (coded_list device.the_row.coded) (set.code (coded_list coded_ℕ))))
    (λ v. (v.pins, (v.devices, v.room))) (λ p. record { pins = p.0; devices = p.1.0; room = p.1.1 }) (λ _. refl)
