use Rattle.std.proofs.Common.{◌≡◌, ◌<◌, length, ap, arith}
use Rattle.bt_queue.specs.Window.{Kept}
use Rattle.bt_queue.specs.Held.{IsHeld}
use Rattle.bt_queue.proofs.HeldLemmas.{held_without_oldest, held_with_newest}
use Rattle.bt_queue.proofs.ring_kind.RingKind.push_into.Goals as goal

pub invariant_of-self-then-flag-eq2 : goal.invariant_of-self-then-flag-eq2
invariant_of-self-then-flag-eq2 c =
    let mid : IsHeld c.args.self.now.attr c.pop_front-oldest.new.self = held_without_oldest _ _ _ _ c.args.self.now.held c.pop_front-oldest.ensures in
    let room : length c.pop_front-oldest.new.self.items < c.args.self.now.attr.max_entries =
    omega (arith, ap (λ (s : Kept). length s.items) c.pop_front-oldest.ensures, c.is_full.ensures.within, c.args.self.now.held.capacity) in
    let size : length c.as_slice-then-flag-eq2.result.now ≡ c.args.self.now.attr.value_size = omega (arith, ap length c.as_slice-then-flag-eq2.ensures.value) in
    record { held = held_with_newest _ _ _ _ mid room size c.push_row-then-flag-eq2.ensures }
