use Rattle.std.proofs.Common.{◌≡◌, ◌++◌, take, drop}
use Rattle.bt_mapkind.specs.Prefix.{masked}
use Rattle.bt_lpm.proofs.prefix.mask.Given as goal

abbrev pub invariant-loop-byte : goal.invariant-loop-byte
invariant-loop-byte l = take l.byte-index l.bytes ++ masked l.left (drop l.byte-index l.bytes) ≡ masked l.bits l.initial.bytes
