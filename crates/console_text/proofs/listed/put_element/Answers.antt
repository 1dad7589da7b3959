use Rattle.console_text.proofs.listed.put_element.Goals as goal

pub returns-in-Link-clause-text : goal.returns-in-Link-clause-text
returns-in-Link-clause-text g c = rw (c.in-Link.is, ← c.as_slice-in-Link.ensures.value) c.put_linked.ensures.text
