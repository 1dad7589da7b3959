use Rattle.std.proofs.Common.{arith, length, ap, sym, ◌∙◌}
use Rattle.map_order.specs.Blocks.{row_at}
use Rattle.map_order.specs.Order.{Ordered}
use Rattle.map_order.proofs.OrderLemmas.{length-rows_of}
use Rattle.map_order.proofs.order.Order.len.Goals as goal

pub returns-clause-count : goal.returns-clause-count
returns-clause-count c = sym (ap (λ (o : Ordered). length o.rows) (sym c.self.view_is) ∙ length-rows_of (row_at c.self.inside.starts.items c.self.inside.rows.items) c.self.inside.len)

pub returns-clause-within : goal.returns-clause-within
returns-clause-within c =
    omega (arith, ap (λ (o : Ordered). length o.rows) c.self.view_is, ap (λ (o : Ordered). o.capacity) c.self.view_is, length-rows_of (row_at c.self.inside.starts.items c.self.inside.rows.items) c.self.inside.len, c.self.invariant.within)
