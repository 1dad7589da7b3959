use Rattle.map_table.proofs.FoundLemmas.{begun_kept}
use Rattle.map_table.proofs.table.Table.new.Goals as goal

pub invariant_of-result : goal.invariant_of-result
invariant_of-result c =
    (begun_kept c.in_ok-order.order c.in_ok-free.free.items c.in_ok-chains.chains c.args.capacity c.bucket_count.result c.args.key_size c.args.value_size c.in_ok-keys.keys c.in_ok-values.values c.requires.few c.requires.small_keys c.requires.small_values c.bucket_count.ensures.some c.in_ok-order.ensures c.in_ok-free.ensures c.in_ok-chains.ensures c.in_ok-keys.ensures c.in_ok-values.ensures).invariant

pub returns : goal.returns
returns c =
    (begun_kept c.in_ok-order.order c.in_ok-free.free.items c.in_ok-chains.chains c.args.capacity c.bucket_count.result c.args.key_size c.args.value_size c.in_ok-keys.keys c.in_ok-values.values c.requires.few c.requires.small_keys c.requires.small_values c.bucket_count.ensures.some c.in_ok-order.ensures c.in_ok-free.ensures c.in_ok-chains.ensures c.in_ok-keys.ensures c.in_ok-values.ensures).view
