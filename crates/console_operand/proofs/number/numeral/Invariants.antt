use Rattle.std.proofs.Common.{◌≡◌, ◌<◌, ◌^◌, drop}
use Rattle.console_operand.specs.Number.{digits_behind, numeral_of, below}
use Rattle.console_operand.proofs.number.numeral.Given as goal

-- what is read and the digits that are left come to what all come to
abbrev pub invariant-loop-byte : goal.invariant-loop-byte
invariant-loop-byte l = record {
  fits : l.value < 2 ^ 64;
  left : below (2 ^ 64) (digits_behind l.base l.value (drop l.byte-index l.digits)) ≡ below (2 ^ 64) (numeral_of l.base l.digits);
}
