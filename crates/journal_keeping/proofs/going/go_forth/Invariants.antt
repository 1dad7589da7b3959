use Rattle.std.proofs.Common.{◌≡◌, ◌≤◌, length}
use Rattle.journal_model.specs.Rebase.{forth_by}
use Rattle.journal_keeping.proofs.going.go_forth.Given as goal

abbrev pub invariant-forth : goal.invariant-forth
invariant-forth g l = record {
  pasts : forth_by l.left l.line.pasts ≡ forth_by l.count l.initial.line.pasts;
  left : l.left ≤ length l.line.pasts.undone;
  boxes : l.line.makes ≡ l.initial.line.makes;
}

abbrev pub decreases-forth : goal.decreases-forth
decreases-forth g l = l.left
