use Rattle.std.proofs.Common.{sym, ◌∙◌}
use Rattle.std.specs.BTreeSet.{contains}
use Rattle.std.proofs.lemmas.List.Folds.{Any-from_list_any, list_any-from_Any}
use Rattle.bt_roots.specs.declared.target.Target.{Target}
use Rattle.bt_roots.specs.TargetOrder.{target_cmp}
use Rattle.bt_roots.proofs.reach.lead_to.Goals as goal

pub returns : goal.returns
returns c =
    let starts = c.args.starts.now in
    let test : Target → _ = contains target_cmp c.in_ok-sources.sources in (
      λ lead.
          let (k, x, lt, at, is) = Any-from_list_any test starts (sym c.is_one_among.ensures ∙ lead) in
          (k, x, lt, at, (c.in_ok-sources.ensures x).0 is),
      λ (k, x, lt, at, is). c.is_one_among.ensures ∙ list_any-from_Any test starts (k, x, lt, at, (c.in_ok-sources.ensures x).1 is),
    )
