use Rattle.std.specs.Prelude.{codes}
use Rattle.console_text.proofs.Writing.{Writes-then, WritesFront-more}
use Rattle.kept_log.specs.LogText.{time_text}
use Rattle.kept_log.proofs.text.put_stamp.Goals as goal

pub returns-in-Ok-clause-text : goal.returns-in-Ok-clause-text
returns-in-Ok-clause-text g c = Writes-then _ _ _ (time_text c.args.time) (codes " ") c.put.result c.in-Ok.ensures.text c.put.ensures.text

pub returns-in-Err-clause-text : goal.returns-in-Err-clause-text
returns-in-Err-clause-text g c = WritesFront-more _ _ (time_text c.args.time) (codes " ") c.in-Err.ensures.text
