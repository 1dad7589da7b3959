use Rattle.std.proofs.Common.{subst}
use Rattle.bt_without.specs.Events.{IsEvent, IsStep}
use Rattle.bt_desk.proofs.Asked.{steps_as}
use Rattle.bt_desk.proofs.shared.Shared.step.Goals as goal

pub returns : goal.returns
returns g c =
    let seen = g.K.MapKind.seen in
    let event = c.asked.inside.event in
    let after = c.step.new.book.plain in
    steps_as seen event c.args.asked c.args.self.now after c.step.result (subst (IsEvent seen event) c.asked.view_is c.asked.invariant)
    (subst (λ before. IsStep seen before event c.step.result after) c.self.view_is c.step.ensures.stepped)
