use Rattle.console_text.specs.Text.{sizes_text, end_text}
use Rattle.console_text.proofs.Writing.{Writes-then, WritesFront-more}
use Rattle.console_text.proofs.listed.put_rest.Goals as goal

pub returns-in-Ok-clause-text : goal.returns-in-Ok-clause-text
returns-in-Ok-clause-text g c = Writes-then _ _ _ (sizes_text c.args.attr) (end_text c.args.frozen) c.put_end.result c.in-Ok.ensures.text c.put_end.ensures.text

pub returns-in-Err-clause-text : goal.returns-in-Err-clause-text
returns-in-Err-clause-text g c = WritesFront-more _ _ (sizes_text c.args.attr) (end_text c.args.frozen) c.in-Err.ensures.text
