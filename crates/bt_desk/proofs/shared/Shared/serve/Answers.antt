use Rattle.std.proofs.Common.{subst}
use Rattle.journal_model.specs.Book.{PlainBook}
use Rattle.journal_model.specs.Run.{Serve}
use Rattle.bt_without.specs.declared.events.Answer.TheVariants.{Served}
use Rattle.bt_desk.specs.Events.{Steps}
use Rattle.bt_desk.proofs.Asked.{serves}
use Rattle.bt_desk.proofs.shared.Shared.serve.Goals as goal

pub returns : goal.returns
returns g c =
    let asked = c.args.asked.now in
    subst (λ (before : PlainBook). Steps before (Serve asked.prog asked.access.now) (Served c.serve.result) c.serve.new.self.plain) c.self.view_is
    (serves _ _ asked.prog asked.access.now c.serve.result c.serve.ensures.served)
