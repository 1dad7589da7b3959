use Rattle.bpfcon.proofs.log.log_on_book.Goals as goal

pub returns-in-Asks-clause-ran : goal.returns-in-Asks-clause-ran
returns-in-Asks-clause-ran g c = rw c.in-Asks.is c.tell.ensures.ran

pub returns-in-Wrong-clause-ran : goal.returns-in-Wrong-clause-ran
returns-in-Wrong-clause-ran g c = rw c.in-Wrong.is c.refuse.ensures.refuses
