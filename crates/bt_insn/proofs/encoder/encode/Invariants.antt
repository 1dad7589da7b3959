use Rattle.std.proofs.Common.{◌≡◌, take}
use Rattle.std.specs.List.{AllByRecursion}
use Rattle.bt_insn.specs.Table.{Fits}
use Rattle.bt_insn.specs.Spelling.{spelling}
use Rattle.bt_insn.proofs.encoder.encode.Given as goal

abbrev pub invariant-loop-insn : goal.invariant-loop-insn
invariant-loop-insn l = record {
  spelled : l.bytes.items ≡ spelling (take l.insn-index l.insns);
  fits : AllByRecursion Fits (take l.insn-index l.insns);
}
