-- The blank of a box: its attributes and its charge, and whether it holds what a new map of its attributes holds.
use Rattle.std.specs.Prelude.{Bool, true, false, ◌==◌, ◌&&◌}
use base.Stored.{Gv, gnil, gnum, gcons}
use Rattle.bt_mapkind.specs.Codes.{contents_code}
use Rattle.bt_mapkind.specs.Contents.{fresh}
use Rattle.bt_mapkind.specs.Seen.{Seen}
use Rattle.journal_model.specs.Blank.{Blank}

-- whether two codes are the same
unfoldable pub is_same_code : Gv → Gv → Bool
is_same_code gnil gnil = true
is_same_code (gnum m) (gnum n) = m == n
is_same_code (gcons a b) (gcons c d) = is_same_code a c && is_same_code b d
is_same_code _ _ = false

unfoldable pub is_fresh : Seen → Bool
is_fresh s = is_same_code (contents_code.code s.contents) (contents_code.code (fresh s.attr))

abbrev pub blank_of : Seen → Blank
blank_of s = record { make = record { attr = s.attr; charge = s.charge }; fresh = is_fresh s }
