use Rattle.journal_laws.proofs.Redoing.{redoes_undo}
use Rattle.journal_laws.proofs.redo_brings_back_what_was_undone.Goals as goal

pub returns : goal.returns
returns c = redoes_undo
