use Rattle.std.proofs.Common.{◌≡◌, ◌++◌, map as each}
use Rattle.journal_model.specs.Listed.{mark_row}
use Rattle.journal_keeping.proofs.MarkLemmas.{standing}
use Rattle.journal_keeping.proofs.marks.Marks.rows.Given as goal

-- the rows so far, and those of the marks that are left
abbrev pub invariant-loop-name : goal.invariant-loop-name
invariant-loop-name l = l.rows.items ++ each mark_row (standing l.self.gone l.name-iterator) ≡ each mark_row l.self.standing
