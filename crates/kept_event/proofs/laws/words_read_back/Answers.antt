use Rattle.kept_event.proofs.WordsRead.{verb_back, type_back}
use Rattle.kept_event.proofs.laws.words_read_back.Goals as goal

pub returns-clause-verbs : goal.returns-clause-verbs
returns-clause-verbs c = verb_back

pub returns-clause-types : goal.returns-clause-types
returns-clause-types c = type_back
