use Rattle.console_text.specs.Text.{naming_run_text, ended_text}
use Rattle.console_text.proofs.Writing.{Writes-then, WritesFront-more}
use Rattle.console_text.proofs.frame_text.put_stopped.Goals as goal

pub returns-in-Ok-clause-text : goal.returns-in-Ok-clause-text
returns-in-Ok-clause-text g c = Writes-then _ _ _ (naming_run_text c.args.run) (ended_text c.args.end) c.put_end.result c.in-Ok.ensures.text c.put_end.ensures.text

pub returns-in-Err-clause-text : goal.returns-in-Err-clause-text
returns-in-Err-clause-text g c = WritesFront-more _ _ (naming_run_text c.args.run) (ended_text c.args.end) c.in-Err.ensures.text
