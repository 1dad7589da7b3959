use Rattle.std.specs.Prelude.{codes}
use Rattle.console_text.specs.Text.{made_text}
use Rattle.console_text.proofs.Writing.{Writes-then, WritesFront-more}
use Rattle.console_text.proofs.journal_text.put_change_row.Goals as goal

pub returns-in-Ok-clause-text : goal.returns-in-Ok-clause-text
returns-in-Ok-clause-text g c = Writes-then _ _ _ (made_text c.args.row.now) (codes "\n") c.put.result c.in-Ok.ensures.text c.put.ensures.text

pub returns-in-Err-clause-text : goal.returns-in-Err-clause-text
returns-in-Err-clause-text g c = WritesFront-more _ _ (made_text c.args.row.now) (codes "\n") c.in-Err.ensures.text
