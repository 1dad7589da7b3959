use Rattle.journal_laws.proofs.Leading.{replays_as_before}
use Rattle.journal_laws.proofs.replay_is_each_answering_as_before.Goals as goal

pub returns : goal.returns
returns c = replays_as_before
