use Rattle.std.proofs.Common.{◌≡◌, arith, sym, ap, ◌∙◌, length, replicate, None, rules}
use Rattle.std.proofs.lemmas.List.{length-replicate}
use Rattle.map_order.specs.Order.{Ordered}
use Rattle.bt_nested.specs.Filled.{filled}
use Rattle.bt_nested.proofs.FilledLemmas.{none_filled}
use Rattle.bt_nested.proofs.slots.IdSlots.new.Goals as goal

pub invariant_of-result : goal.invariant_of-result
invariant_of-result c =
    let is : c.in_ok-ids.ids.items ≡ replicate c.args.count None = search rules in
    let long : length c.in_ok-ids.ids.items ≡ c.args.count = ap length is ∙ length-replicate c.args.count None in
    record {
      filled_are = ap (λ (o : Ordered). o.rows) c.in_ok-filled.ensures ∙ sym (ap filled is ∙ none_filled c.args.count);
      fits = omega (arith, long, ap (λ (o : Ordered). o.capacity) c.in_ok-filled.ensures);
      few = omega (arith, long, c.requires);
    }
