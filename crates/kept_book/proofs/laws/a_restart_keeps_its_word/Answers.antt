use Rattle.kept_book.proofs.LeadLemmas.{restart_keeps_its_word}
use Rattle.kept_book.proofs.laws.a_restart_keeps_its_word.Goals as goal

pub returns : goal.returns
returns c = restart_keeps_its_word
