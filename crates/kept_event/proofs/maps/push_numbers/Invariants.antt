use Rattle.std.proofs.Common.{◌≡◌, ◌++◌, take, flat_map, w32}
use Rattle.std.specs.Int.{to_le_bytes}
use Rattle.kept_event.proofs.maps.push_numbers.Given as goal

abbrev pub invariant-numbers : goal.invariant-numbers
invariant-numbers l = l.bytes.items ≡ l.fn.bytes.items ++ flat_map (to_le_bytes w32) (take l.number-index l.numbers)
