-- The units of work that an exchange counts.
use Rattle.std.specs.Prelude.{ℕ}
use Rattle.bt_objects.specs.Boxes.{one_more}
use Rattle.host_undoing.specs.declared.undoing.Part.{Part}
use Rattle.host_undoing.specs.declared.undoing.Part.TheVariants.{Contents}
use Rattle.host_undoing.specs.declared.undoing.Undoing.{Undoing}

abbrev pub after_part : Part → ℕ → ℕ
after_part (Contents id kept) work = one_more work
after_part _ work = work

abbrev pub after_turn : Undoing → ℕ → ℕ
after_turn u work = after_part u.part work
