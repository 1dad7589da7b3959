use Rattle.bt_mapkind.proofs.Longest.{finds_longest}
use Rattle.bt_mapkind.proofs.laws.the_longest_prefix_is_found.Goals as goal

pub returns : goal.returns
returns c = finds_longest
