use Rattle.map_table.proofs.MapLemmas.{get_place, not_both}
use Rattle.map_table.proofs.table.Table.gap_of.Goals as goal

pub unreachable-requires : goal.unreachable-requires
unreachable-requires c = not_both _ _ c.requires (get_place _ _ _ c.in-Ok.ensures.found)
