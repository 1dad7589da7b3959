use Rattle.console_looks.proofs.turned_text.put_row.Goals as goal

pub returns-in-Without-clause-text : goal.returns-in-Without-clause-text
returns-in-Without-clause-text g c = rw c.in-Without.is c.put_pieces.ensures.text
