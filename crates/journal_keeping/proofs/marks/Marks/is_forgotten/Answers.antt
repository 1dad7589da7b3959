use Rattle.std.proofs.Common.{◌∙◌, sym, ap}
use Rattle.journal_model.specs.Marks.{is_among_names}
use Rattle.journal_keeping.specs.MarksView.{MarksView}
use Rattle.journal_keeping.proofs.MarkLemmas.{is_below, lost}
use Rattle.journal_keeping.proofs.marks.Marks.is_forgotten.Goals as goal

pub returns-in-Some : goal.returns-in-Some
returns-in-Some c =
    let m = c.self.inside in
    ap (is_below m.gone) (sym c.in-Some.is ∙ c.copied.ensures ∙ c.get.ensures.value)
    ∙ sym (lost m.gone c.args.name.now m.by_name.entries c.self.invariant.0)
    ∙ ap (λ (v : MarksView). is_among_names c.args.name.now v.forgotten) c.self.view_is

pub returns-in-None : goal.returns-in-None
returns-in-None c =
    let m = c.self.inside in
    ap (is_below m.gone) (sym c.in-None.is ∙ c.copied.ensures ∙ c.get.ensures.value)
    ∙ sym (lost m.gone c.args.name.now m.by_name.entries c.self.invariant.0)
    ∙ ap (λ (v : MarksView). is_among_names c.args.name.now v.forgotten) c.self.view_is
