use Rattle.console_text.proofs.Writing.{Writes-then, WritesFront-more}
use Rattle.console_looks.specs.TurnedText.{row_text}
use Rattle.console_looks.proofs.turned_text.put_after.Goals as goal

pub returns-in-Ok-clause-text : goal.returns-in-Ok-clause-text
returns-in-Ok-clause-text g c = Writes-then _ _ _ (c.args.before.now) (row_text c.args.row.now) c.put_row.result c.in-Ok.ensures.text c.put_row.ensures.text

pub returns-in-Err-clause-text : goal.returns-in-Err-clause-text
returns-in-Err-clause-text g c = WritesFront-more _ _ (c.args.before.now) (row_text c.args.row.now) c.in-Err.ensures.text
