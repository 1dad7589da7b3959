use Rattle.std.proofs.Common.{◌∙◌, ap}
use Rattle.journal_model.specs.Book.{charged}
use Rattle.journal_keeping.specs.Boxes.{lasts_of}
use Rattle.journal_keeping.proofs.BoxesLemmas.{charged_is}
use Rattle.bt_journal.proofs.book.Book.charged.Goals as goal

pub returns : goal.returns
returns g c =
    let b = c.self.inside in
    c.charged.ensures ∙ charged_is b.line.makes b.line.pasts (lasts_of b.ids.base b.ids.lasts.items) b.ids.maps.items b.ids.progs.items c.self.invariant.0 ∙ ap (λ v. charged v.plain) c.self.view_is
