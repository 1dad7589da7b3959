use Rattle.std.proofs.Common.{◌+◌, sym, subst, ◌∙◌}
use Rattle.std.specs.BTreeSet.{contains}
use Rattle.bt_roots.specs.TargetOrder.{target_cmp}
use Rattle.bt_roots.proofs.SourceLemmas.{AreSources, step_in, step_over, all_sources}
use Rattle.bt_roots.proofs.reach.sources.Goals.{then-leads+in_ok-insert-2, else-leads}
use Rattle.bt_roots.proofs.reach.sources.Goals as goal

pub loop-link-preserved : goal.loop-link-preserved
loop-link-preserved c =
    let links = c.args.links.now in
    let i = c.loop-link.link-index in
    let more = c.if-leads.sources in
    elim c.if-leads.branch [
      | then-leads+in_ok-insert-2 w ↦
          subst (λ s. AreSources links c.args.target (i + 1) (contains target_cmp s)) (sym w.sources-is)
          (step_in links c.args.target i _ (contains target_cmp c.loop-link.sources) c.loop-link-test.true c.loop-link.invariant
          (contains target_cmp w.insert-then-leads.new.self) (c.leads.ensures.0 w.if-leads.true) w.in_ok-insert-2.ensures.updates.0)
      | else-leads w ↦
          subst (λ s. AreSources links c.args.target (i + 1) (contains target_cmp s)) (sym w.sources-is)
          (step_over links c.args.target i _ (contains target_cmp c.loop-link.sources) c.loop-link-test.true c.loop-link.invariant
          (λ to. cc (sym (c.leads.ensures.1 to) ∙ w.if-leads.false)))
    ]

pub returns : goal.returns
returns c = all_sources c.args.links.now c.args.target c.loop-link.link-index _ c.loop-link-test.false c.loop-link.invariant
