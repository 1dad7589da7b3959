use Rattle.std.proofs.Common.{◌≡◌}
use Rattle.std.specs.List.{All, AllWithin}
use Rattle.map_block.proofs.block.Block.is_zero.Given as goal

abbrev pub invariant-loop-index : goal.invariant-loop-index
invariant-loop-index l = AllWithin (All (λ byte. byte ≡ 0)) l.self 0 l.index
