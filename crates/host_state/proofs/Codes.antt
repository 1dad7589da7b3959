-- Codes, by which a proof tells apart what is seen of a world.
use Rattle.std.specs.Prelude.{ℕ, Bool, List, Option, refl}
use Rattle.std.specs.FinMap as map
use Rattle.std.specs.FinSet as set
use Rattle.std.specs.Coded.{Coded, code_by, coded×, coded_ℕ, coded_bool, coded_list, coded_option}
use Rattle.bt_insn.specs.contracts.insn.Insn as insn
use Rattle.bt_insn.specs.declared.insn.Insn.{Insn}
use Rattle.bt_mapkind.specs.Codes.{attr_code, bytes_code, contents_code}
use Rattle.bt_objects.specs.contracts.make.Make as make
use Rattle.bt_roots.specs.contracts.target.Target as target
use Rattle.bt_roots.specs.contracts.device.Device as device
use Rattle.host_state.specs.Prelude.{MapAttr, Contents, Checked, Make, Device, Pins, Paths, ById}
use Rattle.host_state.specs.State.{HostMap, HostProg, State}
use Rattle.host_state.specs.World.{Ids, WorldView}

abbrev pub map_code : Coded HostMap
map_code =
    code_by (MapAttr × (ℕ × (List ℕ × (Contents × (Bool × (Bool × Option MapAttr))))))
    (coded× attr_code (coded× coded_ℕ (coded× bytes_code (coded× contents_code (coded× coded_bool (coded× coded_bool (coded_option attr_code)))))))
    (λ m. (m.attr, (m.charge, (m.name, (m.contents, (m.frozen, (m.live, m.template)))))))
    (λ p. record { attr = p.0; charge = p.1.0; name = p.1.1.0; contents = p.1.1.1.0; frozen = p.1.1.1.1.0; live = p.1.1.1.1.1.0; template = p.1.1.1.1.1.1 }) (λ _. refl)

abbrev pub checked_code : Coded Checked
checked_code =
    code_by (List Insn × List (ℕ × MapAttr)) (coded× (coded_list insn.the_row.coded) (coded_list (coded× coded_ℕ attr_code))) (λ c. (c.insns, c.maps))
    (λ p. record { insns = p.0; maps = p.1 }) (λ _. refl)

abbrev pub prog_code : Coded HostProg
prog_code =
    code_by (Checked × (List ℕ × Bool)) (coded× checked_code (coded× bytes_code coded_bool)) (λ p. (p.code, (p.name, p.live)))
    (λ p. record { code = p.0; name = p.1.0; live = p.1.1 }) (λ _. refl)

abbrev pub state_code : Coded State
state_code =
    code_by (ById HostMap × (ById HostProg × (Pins × List Device)))
    (coded× (map.code coded_ℕ map_code) (coded× (map.code coded_ℕ prog_code) (coded× (map.code bytes_code target.the_row.coded) (coded_list device.the_row.coded))))
    (λ s. (s.maps, (s.progs, (s.pins, s.devices))))
    (λ p. record { maps = p.0; progs = p.1.0; pins = p.1.1.0; devices = p.1.1.1 }) (λ _. refl)

abbrev pub world_code : Coded WorldView
world_code =
    code_by (State × (ById Make × (Ids × (Paths × ℕ))))
    (coded× state_code (coded× (map.code coded_ℕ make.the_row.coded) (coded× (set.code coded_ℕ) (coded× (set.code bytes_code) coded_ℕ))))
    (λ w. (w.state, (w.ready.makes, (w.ready.progs, (w.ready.room, w.work)))))
    (λ p. record { state = p.0; ready = record { makes = p.1.0; progs = p.1.1.0; room = p.1.1.1.0 }; work = p.1.1.1.1 }) (λ _. refl)
