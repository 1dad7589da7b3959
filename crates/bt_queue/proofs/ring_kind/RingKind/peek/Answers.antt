use Rattle.std.proofs.Common.{◌≡◌, ◌+◌, ◌<◌, length, sym, ◌∙◌, arith}
use Rattle.bt_queue.proofs.ItemsLemmas.{peeks_newest, peeks_oldest}
use Rattle.bt_queue.proofs.ring_kind.RingKind.peek.Goals.{then-is_stack, else-is_stack}
use Rattle.bt_queue.proofs.ring_kind.RingKind.peek.Goals as goal

pub returns-clause-answer : goal.returns-clause-answer
returns-clause-answer c =
    let some : 0 < length c.args.self.now.ring.items = omega (arith, c.if-count-eq0.false, c.len-count.ensures.count) in
    elim c.if-is_stack.branch [
      | then-is_stack w ↦
          let last : length c.args.self.now.ring.items ≡ c.if-is_stack.place + 1 = omega (arith, some, w.place-is, c.len-count.ensures.count) in
          peeks_newest c.args.self.now.attr _ c.if-is_stack.place _ (sym c.is_stack.ensures ∙ w.if-is_stack.true) last c.item.ensures
      | else-is_stack w ↦ peeks_oldest c.args.self.now.attr _ c.if-is_stack.place _ (sym c.is_stack.ensures ∙ w.if-is_stack.false) some w.place-is c.item.ensures
    ]
