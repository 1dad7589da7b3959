use Rattle.std.proofs.Common.{◌-◌, length}
use Rattle.map_table.specs.Table.{row_keys}
use Rattle.map_table.proofs.Searched.{IsBetween}
use Rattle.map_table.proofs.search.place_among.Given as goal

abbrev pub invariant-halves : goal.invariant-halves
invariant-halves l = IsBetween (row_keys l.order.rows (length l.order.rows) l.keys) l.key l.low l.high

abbrev pub decreases-halves : goal.decreases-halves
decreases-halves l = l.high - l.low
