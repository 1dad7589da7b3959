use Rattle.bt_desk.proofs.Promised.{keeps_its_word_behind}
use Rattle.bt_desk.proofs.laws.every_history_keeps_its_word.Goals as goal

pub returns : goal.returns
returns c = keeps_its_word_behind
