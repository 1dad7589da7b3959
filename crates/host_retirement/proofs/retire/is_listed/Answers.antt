use Rattle.std.proofs.Common.{◌∙◌}
use Rattle.host_retirement.proofs.ListedLemmas.{searched}
use Rattle.host_retirement.proofs.retire.is_listed.Goals as goal

pub returns : goal.returns
returns c = c.is_ok.ensures.value ∙ searched c.args.targets.now c.args.target c.binary_search.result c.requires c.binary_search.ensures.ok c.binary_search.ensures.position
