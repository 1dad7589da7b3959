use Rattle.std.proofs.Common.{◌≡◌, ◌+◌, ◌%◌, ◌^◌, refl}
use Rattle.thread_lock.specs.declared.counter.Ask.TheVariants.{Add}
use Rattle.test_lock.proofs.counters.CounterAsked.add_one_alone.Goals as goal

-- the questions change nothing, so all is one addition
pub returns : goal.returns
returns c =
    let one : c.step-2.new.self.count ≡ (c.args.self.now.count + 1) % 2 ^ 64 = cc in
    (Add 1, c.step-2.new.self.count, (one, refl))
