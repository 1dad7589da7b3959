use Rattle.console_text.specs.Text.{hexadecimal}
use Rattle.console_text.proofs.piece.put_hexadecimal.Goals as goal

pub returns-clause-text : goal.returns-clause-text
unfolding hexadecimal
returns-clause-text g c = c.put_digits.ensures.text
