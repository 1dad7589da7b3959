use Rattle.thread_lock.specs.declared.counter.Ask.TheVariants.{Add}
use Rattle.test_lock.proofs.counters.SlowAsked.add_one_alone.Goals as goal

pub returns : goal.returns
returns c = (Add 1, c.answer.result, c.answer.ensures)
