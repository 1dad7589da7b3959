use Rattle.thread_lock.proofs.turns.Turns.work_lent.Given as goal

abbrev pub ghost-by : goal.ghost-by
ghost-by g a = g.J.Lent.event

abbrev pub ghost-by-2 : goal.ghost-by-2
ghost-by-2 g a = g.J.Lent.answer
