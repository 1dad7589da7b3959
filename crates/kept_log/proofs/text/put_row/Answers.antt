use Rattle.console_text.proofs.Writing.{Writes-then, WritesFront-more}
use Rattle.kept_log.specs.LogText.{stamp_text, told_text}
use Rattle.kept_log.proofs.text.put_row.Goals as goal

pub returns-in-Ok-clause-text : goal.returns-in-Ok-clause-text
returns-in-Ok-clause-text g c = Writes-then _ _ _ (stamp_text c.args.row.now.time) (told_text c.args.row.now.event) c.put_told.result c.in-Ok.ensures.text c.put_told.ensures.text

pub returns-in-Err-clause-text : goal.returns-in-Err-clause-text
returns-in-Err-clause-text g c = WritesFront-more _ _ (stamp_text c.args.row.now.time) (told_text c.args.row.now.event) c.in-Err.ensures.text
