use Rattle.std.proofs.Common.{◌-◌, ◌∙◌, cond, Some, None, sym, ap}
use Rattle.std.proofs.lemmas.Bool.{le-leb, lt-leb}
use Rattle.journal_model.specs.Marks.{moments_at}
use Rattle.journal_keeping.specs.MarksView.{MarksView}
use Rattle.journal_keeping.proofs.MarkLemmas.{stands_at, found}
use Rattle.journal_keeping.proofs.marks.Marks.find.Goals as goal

pub returns-in-Some : goal.returns-in-Some
returns-in-Some c =
    let m = c.self.inside in
    sym (ap (λ t. cond t (Some (c.in-Some.number - m.gone)) None) (le-leb m.gone c.in-Some.number c.if-number-self.true))
    ∙ ap (stands_at m.gone) (sym c.in-Some.is ∙ c.copied.ensures ∙ c.get.ensures.value)
    ∙ sym (found m.gone c.args.name.now m.by_name.entries c.self.invariant.0)
    ∙ ap (λ (v : MarksView). moments_at c.args.name.now v.standing) c.self.view_is

pub returns-in_default : goal.returns-in_default
returns-in_default c =
    let m = c.self.inside in
    sym (ap (λ t. cond t (Some (c.in-Some.number - m.gone)) None) (lt-leb m.gone c.in-Some.number c.if-number-self.false))
    ∙ ap (stands_at m.gone) (sym c.in-Some.is ∙ c.copied.ensures ∙ c.get.ensures.value)
    ∙ sym (found m.gone c.args.name.now m.by_name.entries c.self.invariant.0)
    ∙ ap (λ (v : MarksView). moments_at c.args.name.now v.standing) c.self.view_is

pub returns-in_default-2 : goal.returns-in_default-2
returns-in_default-2 c =
    let m = c.self.inside in
    ap (stands_at m.gone) (sym c.in_default.is ∙ c.copied.ensures ∙ c.get.ensures.value)
    ∙ sym (found m.gone c.args.name.now m.by_name.entries c.self.invariant.0)
    ∙ ap (λ (v : MarksView). moments_at c.args.name.now v.standing) c.self.view_is
