use Rattle.std.proofs.Common.{◌≡◌, ◌*◌, ◌-◌, take}
use Rattle.bt_mapkind.specs.Prefix.{masked}
use Rattle.map_trie.proofs.keys.has_bits.Given as goal

abbrev pub invariant-loop-place : goal.invariant-loop-place
invariant-loop-place l = record { left : l.left ≡ l.bits - 8 * l.place; same : take l.place l.prefix ≡ take l.place (masked l.bits l.bytes) }
