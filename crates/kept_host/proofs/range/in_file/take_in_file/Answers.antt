use Rattle.kept_host.proofs.RangeKept.{if_all}
use Rattle.kept_host.proofs.range.in_file.take_in_file.Goals as goal

pub returns-in-Ok-taken : goal.returns-in-Ok-taken
returns-in-Ok-taken g c = record { old = c.in-Ok.it; new = record { conn = c.take_kept-taken.new.conn }; opened = c.in-Ok.ensures.opened; ready = c.in-Ok.ensures.ready; took = c.in-Ok-taken.ensures.takes; times = if_all _ _ (λ added. (c.milliseconds-time.result, c.milliseconds-time.ensures, added)) c.in-Ok-taken.taken c.in-Ok-taken.ensures.times }

pub returns-in-Err-taken : goal.returns-in-Err-taken
returns-in-Err-taken g c = record { old = c.in-Ok.it; new = record { conn = c.take_kept-taken.new.conn }; opened = c.in-Ok.ensures.opened; ready = c.in-Ok.ensures.ready; took = c.in-Err-taken.ensures.takes; times = tt }
