use Rattle.std.proofs.Common.{◌<◌, ◌≡◌, length, get_or, arith, ap, sym, ◌∙◌}
use Rattle.std.proofs.lemmas.List.{get_or_default}
use Rattle.map_order.specs.Blocks.{slot_of, row_at}
use Rattle.map_order.specs.Order.{Ordered}
use Rattle.map_order.proofs.OrderLemmas.{length-rows_of, get_or-rows_of}
use Rattle.map_order.proofs.order.Order.get.Goals as goal

pub slot_of-requires : goal.slot_of-requires
slot_of-requires c =
    omega (arith, ap (λ (o : Ordered). length o.rows) c.self.view_is, length-rows_of (row_at c.self.inside.starts.items c.self.inside.rows.items) c.self.inside.len, c.self.invariant.within, c.self.invariant.room, ap length c.deref.ensures.value, c.requires)

pub returns : goal.returns
returns c =
    let lt : c.args.place < c.self.inside.len = omega (arith, ap (λ (o : Ordered). length o.rows) c.self.view_is, length-rows_of (row_at c.self.inside.starts.items c.self.inside.rows.items) c.self.inside.len, c.requires) in
    let within : c.slot_of.result < length c.self.inside.rows.items = omega (arith, c.slot_of.ensures.within, c.self.invariant.blocks, ap length c.deref.ensures.value) in
    let slot : c.slot_of.result ≡ slot_of c.self.inside.starts.items c.args.place = c.slot_of.ensures.slot ∙ ap (λ starts. slot_of starts c.args.place) c.deref.ensures.value in
    c.index.ensures
    ∙ get_or_default c.self.inside.rows.items c.slot_of.result c.index.result.now 0 within
    ∙ ap (λ i. get_or c.self.inside.rows.items i 0) slot
    ∙ sym (get_or-rows_of (row_at c.self.inside.starts.items c.self.inside.rows.items) c.self.inside.len c.args.place lt)
    ∙ ap (λ (o : Ordered). get_or o.rows c.args.place 0) c.self.view_is
