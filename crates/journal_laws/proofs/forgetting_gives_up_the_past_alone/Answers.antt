use Rattle.journal_laws.proofs.Sparing.{forgets_the_past_alone}
use Rattle.journal_laws.proofs.forgetting_gives_up_the_past_alone.Goals as goal

pub returns : goal.returns
returns c = forgets_the_past_alone
