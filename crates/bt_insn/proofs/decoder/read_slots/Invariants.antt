use Rattle.std.proofs.Common.{◌≡◌, ◌+◌, ◌*◌, ◌/◌, ◌≤◌, ◌++◌, length, vec_len}
use Rattle.std.specs.Vec.{vec_capacity}
use Rattle.std.specs.List.{AllByRecursion}
use Rattle.bt_insn.specs.Table.{Fits}
use Rattle.bt_insn.specs.Spelling.{spelling, slots_in}
use Rattle.bt_insn.proofs.decoder.read_slots.Given as goal

abbrev pub invariant-loop-rest : goal.invariant-loop-rest
invariant-loop-rest l = record {
  parts : l.bytes ≡ spelling l.insns.items ++ l.rest;
  fits : AllByRecursion Fits l.insns.items;
  slots : slots_in l.insns.items ≡ l.slot;
  measured : 8 * l.slot + length l.rest ≡ length l.bytes;
  room : 8 * vec_len l.insns + length l.rest ≤ 8 * vec_capacity l.insns;
  exact : vec_capacity l.insns ≡ length l.bytes / 8;
}

abbrev pub decreases-loop-rest : goal.decreases-loop-rest
decreases-loop-rest l = length l.rest
