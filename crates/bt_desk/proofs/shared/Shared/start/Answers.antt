use Rattle.std.proofs.Common.{rules, ◌≡◌, ◌∙◌, ℕ, List, Option, Some, true, refl, sym, subst}
use Rattle.journal_model.specs.Book.{PlainBook}
use Rattle.journal_model.specs.Run.{Start}
use Rattle.bt_without.specs.declared.events.Answer.TheVariants.{Started}
use Rattle.bt_desk.specs.Events.{Steps, device_of}
use Rattle.bt_desk.proofs.Asked.{starts}
use Rattle.bt_desk.proofs.shared.Shared.start.Goals as goal

pub returns-in-Some : goal.returns-in-Some
returns-in-Some g c =
    let device : Option (List ℕ) = c.args.asked.now.device in
    let taken : c.take.result ≡ device = search rules in
    subst (λ (it : Option (List ℕ)). Steps c.args.self.now (Start (device_of it)) (Started c.start.result) c.start.new.self.plain) (sym c.in-Some.is ∙ taken)
    (subst (λ (before : PlainBook). Steps before (Start c.in-Some.device) (Started c.start.result) c.start.new.self.plain) c.self.view_is
    (starts _ _ c.in-Some.device c.start.result c.start.ensures.plain))

pub returns-in-None : goal.returns-in-None
returns-in-None g c = (true, refl)
