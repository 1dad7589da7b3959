use Rattle.std.proofs.Common.{length, ap, arith}
use Rattle.map_order.specs.Blocks.{row_at}
use Rattle.map_order.specs.Order.{Ordered}
use Rattle.map_order.proofs.OrderLemmas.{length-rows_of, written, seen_inserted}
use Rattle.map_order.proofs.order.Order.insert.Goals as goal

pub put_in-requires-clause-place : goal.put_in-requires-clause-place
put_in-requires-clause-place c =
    omega (arith, ap (λ (o : Ordered). length o.rows) c.self.view_is, length-rows_of (row_at c.self.inside.starts.items c.self.inside.rows.items) c.self.inside.len, c.requires.place)

pub put_in-requires-clause-room : goal.put_in-requires-clause-room
put_in-requires-clause-room c =
    omega (arith, ap (λ (o : Ordered). length o.rows) c.self.view_is, ap (λ (o : Ordered). o.capacity) c.self.view_is, length-rows_of (row_at c.self.inside.starts.items c.self.inside.rows.items) c.self.inside.len, c.requires.room, c.self.invariant.room, c.self.invariant.blocks, ap length c.deref_mut-2.ensures.value)

pub invariant_of-self : goal.invariant_of-self
invariant_of-self c =
    written c.self.inside.starts c.self.inside.rows c.put_in.new.starts c.put_in.new.rows c.deref_mut.result.now c.deref_mut-2.result.now c.put_in.auto.starts c.put_in.auto.rows c.deref_mut.ensures.value c.deref_mut-2.ensures.value _ c.self.inside.len _ c.self.invariant
    (omega (arith, ap (λ (o : Ordered). length o.rows) c.self.view_is, ap (λ (o : Ordered). o.capacity) c.self.view_is, length-rows_of (row_at c.self.inside.starts.items c.self.inside.rows.items) c.self.inside.len, c.requires.room))

pub returns : goal.returns
returns c =
    seen_inserted c.self.inside.starts c.self.inside.rows c.put_in.new.starts c.put_in.new.rows c.deref_mut.result.now c.deref_mut-2.result.now c.put_in.auto.starts c.put_in.auto.rows c.deref_mut.ensures.value c.deref_mut-2.ensures.value c.self.inside.capacity c.self.inside.len c.args.place c.args.row _ c.self.view_is c.put_in.ensures
