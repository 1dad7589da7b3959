use Rattle.console_text.proofs.listed.put_sizes.Goals as goal

pub returns-clause-text : goal.returns-clause-text
returns-clause-text g c = rw (← c.from.ensures, ← c.from-2.ensures, ← c.from-3.ensures) c.put_pieces.ensures.text
