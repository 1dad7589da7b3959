use Rattle.console_text.proofs.text.put_answer.Goals as goal

pub returns-in-Linked-clause-text : goal.returns-in-Linked-clause-text
returns-in-Linked-clause-text g c = rw (c.in-Linked.is, ← c.as_slice-in-Linked.ensures.value) c.put_linked.ensures.text
