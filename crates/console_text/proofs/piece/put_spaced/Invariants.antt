use Rattle.std.proofs.Common.{drop}
use Rattle.std.specs.List.{flat_map}
use Rattle.console_text.specs.Text.{spaced_hex_of}
use Rattle.console_text.proofs.Writing.{Written}
use Rattle.console_text.proofs.piece.put_spaced.Given as goal

abbrev pub invariant-loop-byte : goal.invariant-loop-byte
invariant-loop-byte g l = Written (g.W.Output.contents l.initial.out) (g.W.Output.contents l.out) (flat_map spaced_hex_of l.bytes) (flat_map spaced_hex_of (drop l.byte-index l.bytes))
