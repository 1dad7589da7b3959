use Rattle.std.proofs.Common.{rules}
use Rattle.std.proofs.lemmas.List.Sorted.{IsNonDecreasingBy-from_sort_by_key}
use Rattle.bt_workers.specs.Worked.{number_of}
use Rattle.bt_workers.proofs.two.sort.Goals as goal

pub returns-clause-rises : goal.returns-clause-rises
returns-clause-rises c = IsNonDecreasingBy-from_sort_by_key number_of _ c.sort_unstable_by_key.ensures.sorted (λ a r f' called. search rules)
