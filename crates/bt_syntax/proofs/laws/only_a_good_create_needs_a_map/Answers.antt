use Rattle.bt_syntax.proofs.NeedsRead.{needs_makes, makes_needs}
use Rattle.bt_syntax.proofs.laws.only_a_good_create_needs_a_map.Goals as goal

pub returns : goal.returns
returns c = λ line attr. (needs_makes line attr, makes_needs line attr)
