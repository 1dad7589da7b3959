use Rattle.journal_laws.proofs.Alone.{keeps_its_word}
use Rattle.journal_laws.proofs.every_run_keeps_its_word.Goals as goal

pub returns : goal.returns
returns c = keeps_its_word
