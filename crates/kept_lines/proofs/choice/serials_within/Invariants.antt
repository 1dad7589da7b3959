use Rattle.std.proofs.Common.{◌≡◌, ◌++◌, length}
use Rattle.journal_model.specs.declared.listed.ChangeRow.{ChangeRow}
use Rattle.kept_lines.specs.Chosen.{is_within}
use Rattle.kept_lines.proofs.ChosenLemmas.{within}
use Rattle.kept_lines.proofs.choice.serials_within.Given as goal

abbrev pub invariant-rows : goal.invariant-rows
invariant-rows l = l.serials.items ++ within (is_within l.range) (λ (row : ChangeRow). row.serial) l.rest ≡ within (is_within l.range) (λ (row : ChangeRow). row.serial) l.rows

abbrev pub decreases-rows : goal.decreases-rows
decreases-rows l = length l.rest
