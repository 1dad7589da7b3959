use Rattle.std.proofs.Common.{length}
use Rattle.std.specs.List.{flat_map}
use Rattle.console_text.specs.Text.{element_text, count_text}
use Rattle.console_text.proofs.Writing.{Writes-then, WritesFront-more}
use Rattle.console_text.proofs.listed.put_dump.Goals as goal

pub returns-in-Ok-clause-text : goal.returns-in-Ok-clause-text
returns-in-Ok-clause-text g c = Writes-then _ _ _ (flat_map element_text c.args.elements.now) (count_text (length c.args.elements.now)) c.put_count.result c.in-Ok.ensures.text c.put_count.ensures.text

pub returns-in-Err-clause-text : goal.returns-in-Err-clause-text
returns-in-Err-clause-text g c = WritesFront-more _ _ (flat_map element_text c.args.elements.now) (count_text (length c.args.elements.now)) c.in-Err.ensures.text
