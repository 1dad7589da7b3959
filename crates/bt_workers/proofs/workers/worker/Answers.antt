use Rattle.std.proofs.Common.{rules, ◌≡◌, ◌++◌, [], ◌∷◌, length, sym, ap, subst, ◌∙◌, arith}
use Rattle.thread_frames.specs.Deal.{IsFrameAt}
use Rattle.thread_frames.specs.Takes.{all_of}
use Rattle.bt_workers.specs.Worked.{Works, Tells}
use Rattle.bt_workers.proofs.Working.{length_push, works_none, works_more}
use Rattle.bt_workers.proofs.Telling.{tells_none, tells_more}
use Rattle.bt_workers.proofs.workers.worker.Goals as goal

pub frames-init : goal.frames-init
frames-init g c =
    let empty : c.reserve.new.self.items ≡ [] = search rules in (
      c.requires.seat,
      c.requires.take,
      subst (λ ends. Works c.args.seat.now c.args.take.now ends c.args.seat.now c.args.take.now) (sym empty) (works_none c.args.seat.now c.args.take.now),
      (let none = ap length empty in omega arith),
      search rules,
      subst (λ ends. Tells g.G.Gate.told (all_of c.args.take.now) c.args.seat.now c.args.gate.now ends c.args.seat.now c.args.gate.now) (sym empty) (tells_none g.G.Gate.told (all_of c.args.take.now) c.args.seat.now c.args.gate.now),
    )

pub frames-preserved : goal.frames-preserved
frames-preserved g c =
    let it = c.in-Some.ensures in
    let before = c.frames.invariant in
    let served = c.serve-end.ensures.served in
    let all = all_of c.args.take.now in
    let pushed = c.push_reserved.ensures.items in (
      c.serve-end.ensures.seat,
      it.take.0,
      subst (λ ends. Works c.args.seat.now c.args.take.now ends c.serve-end.new.seat c.next.new.take) (sym pushed)
          (works_more _ _ _ _ _ c.in-Some.it c.serve-end.result _ _ before.2 it.frame it.taken it.take.1 it.take.2 (served.0, served.1, served.2)),
      (let a = ap length pushed ∙ length_push _ _ in let b = ap length it.taken ∙ length_push _ _ in omega (arith, before.3, a, b)),
      (let cap = c.push_reserved.ensures.capacity in omega (arith, before.4, cap)),
      subst (λ ends. Tells g.G.Gate.told all c.args.seat.now c.args.gate.now ends c.serve-end.new.seat c.answered.new.self) (sym pushed)
          (tells_more g.G.Gate.told all c.args.seat.now c.args.gate.now c.frames.ends.items c.frames.seat c.frames.gate c.in-Some.it c.serve-end.result c.serve-end.new.seat c.serve-end.new.gate c.answered.new.self
          before.5 (subst (λ fs. IsFrameAt fs c.in-Some.it) before.2.same_all it.frame) served c.answered.ensures),
    )
