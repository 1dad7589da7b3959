use Rattle.std.proofs.Common.{◌+◌, ◌≤◌, ◌∙◌, ℕ, List, sym, ap, subst, rules}
use Rattle.indexmap.proofs.CallerLemmas.{filter-RetainsPairs}
use Rattle.journal_model.specs.Marks.{marks_from}
use Rattle.journal_model.proofs.Lists.{EachPair-filter}
use Rattle.journal_keeping.specs.MarksView.{MarksView}
use Rattle.journal_keeping.proofs.MarkLemmas.{Ascends, standing, forgotten, count_test, counted_standing, counted_forgotten}
use Rattle.journal_keeping.proofs.marks.Marks.count_from.Goals as goal

pub returns-clause-standing : goal.returns-clause-standing
returns-clause-standing c =
    let m = c.self.inside in
    ap (standing (m.gone + c.args.count)) (filter-RetainsPairs _ (count_test m.gone (m.gone + c.args.count)) _ (λ k v b w g call. search rules) _ _ c.retain.ensures.filtered)
    ∙ counted_standing m.gone c.args.count m.by_name.entries
    ∙ ap (λ (v : MarksView). marks_from c.args.count v.standing) c.self.view_is

pub returns-clause-forgotten : goal.returns-clause-forgotten
returns-clause-forgotten c =
    let m = c.self.inside in
    ap (forgotten (m.gone + c.args.count)) (filter-RetainsPairs _ (count_test m.gone (m.gone + c.args.count)) _ (λ k v b w g call. search rules) _ _ c.retain.ensures.filtered)
    ∙ counted_forgotten m.gone c.args.count m.by_name.entries
    ∙ ap (λ (v : MarksView). v.forgotten) c.self.view_is

pub invariant_of-self : goal.invariant_of-self
invariant_of-self c =
    let m = c.self.inside in (
      c.retain.ensures.unique,
      subst Ascends (sym (filter-RetainsPairs _ (count_test m.gone (m.gone + c.args.count)) _ (λ k v b w g call. search rules) _ _ c.retain.ensures.filtered))
          (EachPair-filter (λ (earlier later : List ℕ × ℕ). earlier.1 ≤ later.1) (count_test m.gone (m.gone + c.args.count)) m.by_name.entries c.self.invariant.1),
    )
