use Rattle.std.proofs.Common.{◌++◌, ◌∙◌, ap}
use Rattle.journal_model.specs.Marks.{marks_from, names_below}
use Rattle.journal_keeping.specs.MarksView.{MarksView}
use Rattle.journal_keeping.proofs.MarkLemmas.{later_standing, folded_forgotten}
use Rattle.journal_keeping.proofs.marks.Marks.fold.Goals as goal

pub returns-clause-standing : goal.returns-clause-standing
returns-clause-standing c =
    let m = c.self.inside in
    later_standing m.gone 1 m.by_name.entries ∙ ap (λ (v : MarksView). marks_from 1 v.standing) c.self.view_is

pub returns-clause-forgotten : goal.returns-clause-forgotten
returns-clause-forgotten c =
    let m = c.self.inside in
    folded_forgotten m.gone m.by_name.entries c.self.invariant.1 ∙ ap (λ (v : MarksView). v.forgotten ++ names_below 1 v.standing) c.self.view_is
