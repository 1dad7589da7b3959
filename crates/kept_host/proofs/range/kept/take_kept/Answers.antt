use Rattle.std.proofs.Common.{inr}
use Rattle.sqlite.specs.Held.{state}
use Rattle.kept_host.specs.declared.range.fault.RangeFault.TheVariants as taking
use Rattle.kept_host.proofs.OnBook.{not_taken, took_kept, stops_kept}
use Rattle.kept_lines.proofs.Added.{added_to}
use Rattle.kept_host.proofs.RangeKept.{if_all}
use Rattle.kept_host.proofs.range.kept.take_kept.Goals as goal

pub returns-in-Err-clause-takes : goal.returns-in-Err-clause-takes
returns-in-Err-clause-takes g c = not_taken c.args.terms c.args.range (state g.D.Store c.args.conn.now) (g.W.Output.contents c.args.out.now) (state g.D.Store c.begin.new.conn) c.in-Err.fault c.in-Err.ensures.begins

pub returns-in-Ok-take_range-clause-takes : goal.returns-in-Ok-take_range-clause-takes
returns-in-Ok-take_range-clause-takes g c =
    took_kept c.args.terms c.args.range (state g.D.Store c.args.conn.now) (g.W.Output.contents c.args.out.now) (state g.D.Store c.begin.new.conn) (state g.D.Store c.take_range.new.conn) (g.W.Output.contents c.told.new.out) c.in-Ok.book
    c.in-Ok.ensures.begins c.take_range.ensures.clean c.take_range.ensures.left c.take_range.new.book.plain c.in-Ok-take_range.taken (g.W.Output.contents c.take_range.new.out) c.in-Ok-take_range.ensures.taken c.told.ensures.kept
    c.in-Ok-take_range.ensures.kept c.in-Ok-take_range.ensures.same

pub returns-in-Lines-clause-takes : goal.returns-in-Lines-clause-takes
returns-in-Lines-clause-takes g c =
    stops_kept c.args.terms c.args.range (state g.D.Store c.args.conn.now) (g.W.Output.contents c.args.out.now) (state g.D.Store c.begin.new.conn) (state g.D.Store c.take_range.new.conn) (g.W.Output.contents c.take_range.new.out) c.in-Ok.book
    c.in-Ok.ensures.begins c.take_range.ensures.clean c.take_range.ensures.left (taking.Lines c.in-Lines.fault) (rw c.in-Lines.is at c.in-Err-take_range.ensures.stops)

pub returns-in-Open-clause-takes : goal.returns-in-Open-clause-takes
returns-in-Open-clause-takes g c =
    inr (stops_kept c.args.terms c.args.range (state g.D.Store c.args.conn.now) (g.W.Output.contents c.args.out.now) (state g.D.Store c.begin.new.conn) (state g.D.Store c.take_range.new.conn) (g.W.Output.contents c.take_range.new.out) c.in-Ok.book
    c.in-Ok.ensures.begins c.take_range.ensures.clean c.take_range.ensures.left (taking.Open c.in-Open.fault) (rw c.in-Open.is at c.in-Err-take_range.ensures.stops))

pub returns-in-Ok-take_range-clause-times : goal.returns-in-Ok-take_range-clause-times
returns-in-Ok-take_range-clause-times g c =
    if_all _ _ (added_to c.args.terms c.args.time (state g.D.Store c.args.conn.now) (state g.D.Store c.begin.new.conn) (state g.D.Store c.take_range.new.conn) c.take_range.ensures.clean c.in-Ok.ensures.entries) c.in-Ok-take_range.taken c.in-Ok-take_range.ensures.times
