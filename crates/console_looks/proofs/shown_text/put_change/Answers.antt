use Rattle.console_text.proofs.Writing.{Writes-then, WritesFront-more}
use Rattle.console_text.specs.Text.{made_text}
use Rattle.console_looks.specs.LookText.{behind_text}
use Rattle.console_looks.proofs.shown_text.put_change.Goals as goal

pub returns-in-Ok-clause-text : goal.returns-in-Ok-clause-text
returns-in-Ok-clause-text g c = Writes-then _ _ _ (made_text c.args.it.now.row) (behind_text c.args.it.now) c.put_behind.result c.in-Ok.ensures.text c.put_behind.ensures.text

pub returns-in-Err-clause-text : goal.returns-in-Err-clause-text
returns-in-Err-clause-text g c = WritesFront-more _ _ (made_text c.args.it.now.row) (behind_text c.args.it.now) c.in-Err.ensures.text
