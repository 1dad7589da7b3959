use Rattle.journal_laws.proofs.Alone.{makes_room_alone}
use Rattle.journal_laws.proofs.the_oldest_moment_joins_the_base_alone.Goals as goal

pub returns : goal.returns
returns c = makes_room_alone
