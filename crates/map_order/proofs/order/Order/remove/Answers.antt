use Rattle.std.proofs.Common.{◌≡◌, ◌+◌, ◌-◌, length, ap, arith}
use Rattle.map_order.specs.Blocks.{row_at}
use Rattle.map_order.specs.Order.{Ordered}
use Rattle.map_order.proofs.OrderLemmas.{length-rows_of, written, seen_removed, row_removed}
use Rattle.map_order.proofs.order.Order.remove.Goals as goal

pub overflow_sub-self : goal.overflow_sub-self
overflow_sub-self c = omega (arith, ap (λ (o : Ordered). length o.rows) c.self.view_is, length-rows_of (row_at c.self.inside.starts.items c.self.inside.rows.items) c.self.inside.len, c.requires)

pub take_out-requires-clause-place : goal.take_out-requires-clause-place
take_out-requires-clause-place c = omega (arith, ap (λ (o : Ordered). length o.rows) c.self.view_is, length-rows_of (row_at c.self.inside.starts.items c.self.inside.rows.items) c.self.inside.len, c.requires)

pub take_out-requires-clause-room : goal.take_out-requires-clause-room
take_out-requires-clause-room c =
    omega (arith, ap (λ (o : Ordered). length o.rows) c.self.view_is, ap (λ (o : Ordered). o.capacity) c.self.view_is, length-rows_of (row_at c.self.inside.starts.items c.self.inside.rows.items) c.self.inside.len, c.requires, c.self.invariant.within, c.self.invariant.room, c.self.invariant.blocks, ap length c.deref_mut-2.ensures.value)

pub invariant_of-self : goal.invariant_of-self
invariant_of-self c =
    written c.self.inside.starts c.self.inside.rows c.take_out.new.starts c.take_out.new.rows c.deref_mut.result.now c.deref_mut-2.result.now c.take_out.auto.starts c.take_out.auto.rows c.deref_mut.ensures.value c.deref_mut-2.ensures.value _ c.self.inside.len _ c.self.invariant
    (omega (arith, c.self.invariant.within))

pub returns-clause-removed : goal.returns-clause-removed
returns-clause-removed c =
    let count : c.self.inside.len - 1 + 1 ≡ c.self.inside.len = omega (arith, ap (λ (o : Ordered). length o.rows) c.self.view_is, length-rows_of (row_at c.self.inside.starts.items c.self.inside.rows.items) c.self.inside.len, c.requires) in
    seen_removed c.self.inside.starts c.self.inside.rows c.take_out.new.starts c.take_out.new.rows c.deref_mut.result.now c.deref_mut-2.result.now c.take_out.auto.starts c.take_out.auto.rows c.deref_mut.ensures.value c.deref_mut-2.ensures.value c.self.inside.capacity c.self.inside.len (c.self.inside.len - 1) c.args.place _ c.self.view_is count c.take_out.ensures.others

pub returns-clause-row : goal.returns-clause-row
returns-clause-row c =
    let count : c.self.inside.len - 1 + 1 ≡ c.self.inside.len = omega (arith, ap (λ (o : Ordered). length o.rows) c.self.view_is, length-rows_of (row_at c.self.inside.starts.items c.self.inside.rows.items) c.self.inside.len, c.requires) in
    row_removed c.self.inside.starts c.self.inside.rows c.take_out.new.starts c.take_out.new.rows c.deref_mut.result.now c.deref_mut-2.result.now c.take_out.auto.starts c.take_out.auto.rows c.deref_mut.ensures.value c.deref_mut-2.ensures.value c.self.inside.capacity c.self.inside.len (c.self.inside.len - 1) c.args.place c.take_out.result _ c.self.view_is count c.take_out.ensures.row
