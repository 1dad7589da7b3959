use Rattle.std.proofs.Common.{◌≤◌, ◌∙◌, ℕ, List, filter, sym, ap, subst, rules}
use Rattle.std.specs.Prelude.{nat_le}
use Rattle.indexmap.proofs.CallerLemmas.{filter-RetainsPairs}
use Rattle.journal_model.specs.Marks.{Mark}
use Rattle.journal_model.proofs.Lists.{EachPair-filter}
use Rattle.journal_keeping.specs.MarksView.{MarksView}
use Rattle.journal_keeping.proofs.MarkLemmas.{Ascends, standing, forgotten, kept_test, kept_standing, kept_forgotten}
use Rattle.journal_keeping.proofs.marks.Marks.keep_up_to.Goals as goal

pub returns-clause-standing : goal.returns-clause-standing
returns-clause-standing c =
    let m = c.self.inside in
    ap (standing m.gone) (filter-RetainsPairs _ (kept_test m.gone c.args.count) _ (λ k v b w g call. search rules) _ _ c.retain.ensures.filtered)
    ∙ kept_standing m.gone c.args.count m.by_name.entries
    ∙ ap (λ (v : MarksView). filter (λ (m : Mark). nat_le m.moments c.args.count) v.standing) c.self.view_is

pub returns-clause-forgotten : goal.returns-clause-forgotten
returns-clause-forgotten c =
    let m = c.self.inside in
    ap (forgotten m.gone) (filter-RetainsPairs _ (kept_test m.gone c.args.count) _ (λ k v b w g call. search rules) _ _ c.retain.ensures.filtered)
    ∙ kept_forgotten m.gone c.args.count m.by_name.entries
    ∙ ap (λ (v : MarksView). v.forgotten) c.self.view_is

pub invariant_of-self : goal.invariant_of-self
invariant_of-self c =
    let m = c.self.inside in (
      c.retain.ensures.unique,
      subst Ascends (sym (filter-RetainsPairs _ (kept_test m.gone c.args.count) _ (λ k v b w g call. search rules) _ _ c.retain.ensures.filtered))
          (EachPair-filter (λ (earlier later : List ℕ × ℕ). earlier.1 ≤ later.1) (kept_test m.gone c.args.count) m.by_name.entries c.self.invariant.1),
    )
