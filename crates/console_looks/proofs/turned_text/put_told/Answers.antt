use Rattle.console_looks.specs.TurnedText.{rows_text, more_text}
use Rattle.console_text.proofs.Writing.{Writes-then, WritesFront-more}
use Rattle.console_looks.proofs.turned_text.put_told.Goals as goal

pub returns-in-Ok-clause-text : goal.returns-in-Ok-clause-text
returns-in-Ok-clause-text g c = Writes-then _ _ _ (rows_text c.args.rows.now) (more_text c.args.more) c.put_more.result c.in-Ok.ensures.text c.put_more.ensures.text

pub returns-in-Err-clause-text : goal.returns-in-Err-clause-text
returns-in-Err-clause-text g c = WritesFront-more _ _ (rows_text c.args.rows.now) (more_text c.args.more) c.in-Err.ensures.text
