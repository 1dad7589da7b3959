use Rattle.std.proofs.Common.{drop}
use Rattle.std.specs.Prelude.{All}
use Rattle.console_input.specs.Named.{IsNamedInAny, IsAtHand, Leaves}
use Rattle.console_input.proofs.NamedFiles.{FilesLeft}
use Rattle.console_input.proofs.named.read_deeper.Given as goal

abbrev pub invariant-loop-file : goal.invariant-loop-file
invariant-loop-file g l = record {
  left : Leaves l.first l.deeper.items l.left;
  named : All (IsNamedInAny l.first) l.deeper.items;
  whole : FilesLeft (IsAtHand (g.R.FileReader.may_read l.rt)) l.first l.deeper.items (drop l.file-index l.first);
}
