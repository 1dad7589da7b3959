-- A map that has not reserved its room.
use Rattle.std.specs.Prelude.{false}
use Rattle.bt_mapkind.specs.Seen.{Seen}

abbrev pub scarce : Seen → Seen
scarce s = record { attr = s.attr; contents = s.contents; charge = s.charge; roomy = false }
