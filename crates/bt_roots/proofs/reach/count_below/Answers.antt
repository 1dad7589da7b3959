use Rattle.std.proofs.Common.{rules}
use Rattle.std.proofs.lemmas.List.Sorted.{IsPartitionPoint-from_clause}
use Rattle.std.specs.Ordering.{is_lt}
use Rattle.bt_roots.specs.TargetOrder.{target_cmp}
use Rattle.bt_roots.proofs.Targets.{split_below}
use Rattle.bt_roots.proofs.reach.count_below.Goals as goal

pub returns-clause-split : goal.returns-clause-split
returns-clause-split c =
    IsPartitionPoint-from_clause (λ link. is_lt (target_cmp link.0 c.args.from)) c.args.links.now c.partition_point.result c.partition_point.ensures.partitioned
    (split_below c.args.links.now c.args.from c.requires) (λ a r q k. search rules)
