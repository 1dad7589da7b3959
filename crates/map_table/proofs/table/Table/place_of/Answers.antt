use Rattle.std.proofs.Common.{arith}
use Rattle.map_table.proofs.TableLemmas.{len_is}
use Rattle.map_table.proofs.FoundLemmas.{handed_rise, handed_rows, handed_keys}
use Rattle.map_table.proofs.table.Table.place_of.Goals as goal

pub place_among-requires-clause-rows : goal.place_among-requires-clause-rows
place_among-requires-clause-rows c = handed_rows _ _ _ _ _ _ _ _ c.self.invariant c.self.view_is

pub place_among-requires-clause-rises : goal.place_among-requires-clause-rises
place_among-requires-clause-rises c = handed_rise _ _ _ _ _ _ _ _ c.self.invariant c.self.view_is

pub returns-clause-found : goal.returns-clause-found
returns-clause-found c = rw (← c.as_slice.ensures.value, ← handed_keys _ _ _ _ _ _ _ _ c.self.invariant c.self.view_is) c.place_among.ensures.found

pub returns-clause-absent : goal.returns-clause-absent
returns-clause-absent c = rw (← c.as_slice.ensures.value, ← handed_keys _ _ _ _ _ _ _ _ c.self.invariant c.self.view_is) c.place_among.ensures.absent

pub returns-clause-few : goal.returns-clause-few
returns-clause-few c = omega (arith, len_is _ _ _ _ _ _ _ c.self.invariant.table c.self.view_is, c.self.invariant.table.len_within, c.self.invariant.table.count, c.self.invariant.table.few)
