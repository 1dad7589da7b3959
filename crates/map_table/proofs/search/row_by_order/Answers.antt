use Rattle.map_table.proofs.Searched.{gap_other}
use Rattle.map_table.proofs.search.row_by_order.Goals as goal

pub returns-in-Err : goal.returns-in-Err
returns-in-Err c = gap_other _ _ _ c.in-Err.ensures.absent
