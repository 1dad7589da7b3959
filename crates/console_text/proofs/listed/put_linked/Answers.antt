use Rattle.console_text.proofs.listed.put_linked.Goals as goal

pub returns-clause-text : goal.returns-clause-text
returns-clause-text g c = rw (← c.from.ensures) c.put_pieces.ensures.text
