use Rattle.std.proofs.Common.{arith, ap, ◌∙◌, length, length-set}
use Rattle.map_order.specs.Order.{Ordered}
use Rattle.bt_nested.specs.Filled.{marked}
use Rattle.bt_nested.proofs.FilledLemmas.{filled_rises, marked_filled, marked_fits}
use Rattle.bt_nested.proofs.slots.IdSlots.exchange.Goals as goal

pub mark-requires-clause-rises : goal.mark-requires-clause-rises
mark-requires-clause-rises c = filled_rises _ c.self.inside.ids.items c.self.invariant.filled_are

pub mark-requires-clause-room : goal.mark-requires-clause-room
mark-requires-clause-room c =
    rw c.is_some.ensures (marked_fits c.self.inside.filled.rows c.self.inside.ids.items c.args.index _ c.args.id c.self.invariant.filled_are (omega (arith, ap length c.self.view_is, c.requires)) c.self.invariant.fits)

pub invariant_of-self : goal.invariant_of-self
invariant_of-self c =
    record {
      filled_are = ap (λ (o : Ordered). o.rows) c.mark.ensures ∙ ap (marked c.self.inside.filled.rows c.args.index) c.is_some.ensures
          ∙ marked_filled c.self.inside.filled.rows c.self.inside.ids.items c.args.index c.args.id c.self.invariant.filled_are (omega (arith, ap length c.self.view_is, c.requires));
      fits = omega (arith, length-set c.self.inside.ids.items c.args.index c.args.id, c.self.invariant.fits, ap (λ (o : Ordered). o.capacity) c.mark.ensures);
      few = omega (arith, length-set c.self.inside.ids.items c.args.index c.args.id, c.self.invariant.few);
    }
