use Rattle.journal_laws.proofs.Redoing.{redoes_undo_last}
use Rattle.journal_laws.proofs.redo_brings_back_the_last_moment.Goals as goal

pub returns : goal.returns
returns c = redoes_undo_last
