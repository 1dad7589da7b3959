-- The state of a host, all of it data: its maps, its programs, its pins and its devices. Runs in flight, serials, ids
-- still to be given, marks and the journal are no part of it.
use Rattle.std.specs.Prelude.{ℕ, Bool, true, false, List, Option}
use Rattle.host_state.specs.Prelude.{MapAttr, Contents, Make, Device, Pins, ById}
use Rattle.bt_mapkind.specs.Contents.{fresh}
use Rattle.host_state.specs.declared.entry.HostProg.{HostProg as Prog}
use Rattle.host_state.specs.declared.entry.MapEntry.{MapEntry}

-- a map: `charge` is what it costs of the host's budget, in bytes; `template` is what the inner maps of an outer map
-- agree with; one that is not live has retired, and keeps its contents
pub record HostMap : Type 0 where
  pub attr : MapAttr
  pub charge : ℕ
  pub name : List ℕ
  pub contents : Contents
  pub frozen : Bool
  pub live : Bool
  pub template : Option MapAttr

-- a program: its code, which is its instructions with the maps that they name, its name, and whether it is live
abbrev pub HostProg : Type 0
HostProg = Prog

-- maps and programs by id, pins by path, devices in order
pub record State : Type 0 where
  pub maps : ById HostMap
  pub progs : ById HostProg
  pub pins : Pins
  pub devices : List Device

-- ---- a map as a world keeps it: its box, and an entry for what the world knows beside it
abbrev pub hosted : Make → Contents → MapEntry → HostMap
hosted make contents entry = record {
  attr = make.attr;
  charge = make.charge;
  name = entry.name;
  contents = contents;
  frozen = entry.frozen;
  live = entry.live;
  template = entry.template;
}

-- the map of a fresh box
abbrev pub made : Make → MapEntry → HostMap
made make entry = hosted make (fresh make.attr) entry

abbrev pub entry_of : HostMap → MapEntry
entry_of m = record { name = m.name; frozen = m.frozen; live = m.live; template = m.template }

-- what is known of a new map
abbrev pub new_entry : List ℕ → Option MapAttr → MapEntry
new_entry name template = record { name = name; frozen = false; live = true; template = template }
