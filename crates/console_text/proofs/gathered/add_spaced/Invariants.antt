use Rattle.std.proofs.Common.{◌≡◌, ◌++◌, drop}
use Rattle.std.specs.List.{flat_map}
use Rattle.console_text.specs.Text.{spaced_hex_of}
use Rattle.console_text.proofs.gathered.add_spaced.Given as goal

-- what is gathered and what is left are all
abbrev pub invariant-loop-byte : goal.invariant-loop-byte
invariant-loop-byte l = l.initial.line.items ++ flat_map spaced_hex_of l.bytes ≡ l.line.items ++ flat_map spaced_hex_of (drop l.byte-index l.bytes)
