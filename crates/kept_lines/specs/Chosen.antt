-- The changes that a range has.
use Rattle.std.specs.Prelude.{ℕ, Bool, ◌&&◌, nat_le, List, filter, map as each, reverse}
use Rattle.journal_model.specs.declared.listed.ChangeRow.{ChangeRow}
use Rattle.journal_model.specs.Book.{PlainBook}
use Rattle.journal_model.specs.Listed.{listed}
use Rattle.kept_lines.specs.declared.range.SerialRange.{SerialRange}

abbrev pub is_within : SerialRange → ℕ → Bool
is_within range serial = nat_le range.first serial && nat_le serial range.last

-- the serials in it of the changes in force, which a book lists, the last one first
abbrev pub chosen : SerialRange → PlainBook → List ℕ
chosen range b = filter (is_within range) (each (λ (row : ChangeRow). row.serial) (reverse (listed b).changes))
