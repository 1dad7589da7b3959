use Rattle.std.proofs.Common.{drop}
use Rattle.console_input.specs.Named.{Adds, IsNamedIn, IsAtHand, Leaves}
use Rattle.console_input.proofs.NamedFiles.{PathsLeft}
use Rattle.console_input.proofs.named.add_named.Given as goal

abbrev pub invariant-loop-path : goal.invariant-loop-path
invariant-loop-path g l = record {
  left : Leaves l.known l.files.items l.left;
  named : Adds (IsNamedIn l.fn.text) l.fn.files.items l.files.items;
  whole : PathsLeft (IsAtHand (g.R.FileReader.may_read l.rt)) l.known l.fn.files.items l.path-items l.files.items (drop l.path-index l.path-items);
}
