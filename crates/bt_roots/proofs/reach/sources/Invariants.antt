use Rattle.std.specs.BTreeSet.{contains}
use Rattle.bt_roots.specs.TargetOrder.{target_cmp}
use Rattle.bt_roots.proofs.SourceLemmas.{AreSources}
use Rattle.bt_roots.proofs.reach.sources.Given as goal

abbrev pub invariant-loop-link : goal.invariant-loop-link
invariant-loop-link l = AreSources l.links l.fn.target l.link-index (contains target_cmp l.sources)
