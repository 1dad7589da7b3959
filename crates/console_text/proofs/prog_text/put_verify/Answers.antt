use Rattle.console_text.proofs.prog_text.put_verify.Goals as goal

pub returns-in-NoMap-clause-text : goal.returns-in-NoMap-clause-text
returns-in-NoMap-clause-text g c = rw (c.in-NoMap.is, ← c.from.ensures) c.put_slot_and.ensures.text

pub returns-in-JumpOut-clause-text : goal.returns-in-JumpOut-clause-text
returns-in-JumpOut-clause-text g c = rw c.in-JumpOut.is c.put_slot-in-JumpOut.ensures.text

pub returns-in-IntoWide-clause-text : goal.returns-in-IntoWide-clause-text
returns-in-IntoWide-clause-text g c = rw c.in-IntoWide.is c.put_slot-in-IntoWide.ensures.text

pub returns-in-BackEdge-clause-text : goal.returns-in-BackEdge-clause-text
returns-in-BackEdge-clause-text g c = rw c.in-BackEdge.is c.put_slot-in-BackEdge.ensures.text

pub returns-in-FallsOff-clause-text : goal.returns-in-FallsOff-clause-text
returns-in-FallsOff-clause-text g c = rw c.in-FallsOff.is c.put-in-FallsOff.ensures.text

pub returns-in-Uninit-clause-text : goal.returns-in-Uninit-clause-text
returns-in-Uninit-clause-text g c = rw (c.in-Uninit.is, ← c.index.ensures.value) c.put_slot_and-in-Uninit.ensures.text

pub returns-in-NoMemory-clause-text : goal.returns-in-NoMemory-clause-text
returns-in-NoMemory-clause-text g c = rw c.in-NoMemory.is c.put-in-NoMemory.ensures.text
