use Rattle.std.specs.Prelude.{codes}
use Rattle.console_text.specs.Text.{ids_text}
use Rattle.console_text.proofs.Writing.{Writes-then, WritesFront-more}
use Rattle.console_text.proofs.prog_text.put_end.Goals as goal

pub returns-in-Ok-clause-text : goal.returns-in-Ok-clause-text
returns-in-Ok-clause-text g c = Writes-then _ _ _ (ids_text c.args.maps.now) (codes "\n") c.put.result c.in-Ok.ensures.text c.put.ensures.text

pub returns-in-Err-clause-text : goal.returns-in-Err-clause-text
returns-in-Err-clause-text g c = WritesFront-more _ _ (ids_text c.args.maps.now) (codes "\n") c.in-Err.ensures.text
