use Rattle.std.proofs.Common.{sym}
use Rattle.sqlite.specs.Held.{state}
use Rattle.console_input.specs.Named.{AreFilesOf}
use Rattle.console_script.specs.Frames.{console_of}
use Rattle.console_script.specs.Supplied.{AreSupplied}
use Rattle.console_talk.specs.Talk.{standing}
use Rattle.kept_host.specs.Talks.{StaysOnDisk}
use Rattle.kept_host.proofs.RangeTalk.{goes_range, goes_other, part_range}
use Rattle.kept_host.proofs.talk.hear.Goals as goal

pub returns-in-Some-clause-goes : goal.returns-in-Some-clause-goes
returns-in-Some-clause-goes g c =
    goes_range (AreSupplied g.S.Supply.gives g.K.MapKind.seen) (AreFilesOf (g.R.FileReader.may_read c.args.rt.now)) (StaysOnDisk (state g.D.Store c.args.conn.now) (state g.D.Store c.take_now.new.conn) c.args.book.now.plain) c.args.line.now
    c.args.supply.now (standing (console_of c.args.book.now.plain c.args.dialogue.now.runs) c.args.dialogue.now.summary)
    (standing (console_of c.take_now.new.book.plain c.take_now.new.dialogue.runs) c.take_now.new.dialogue.summary) (g.W.Output.contents c.args.out.now) (g.W.Output.contents c.take_now.new.out)
    c.in-Some.range c.take_now.result (sym c.in-Some.ensures) c.take_now.ensures.took

pub returns-in-Some-clause-part : goal.returns-in-Some-clause-part
returns-in-Some-clause-part g c =
    part_range (AreFilesOf (g.R.FileReader.may_read c.args.rt.now)) (standing (console_of c.args.book.now.plain c.args.dialogue.now.runs) c.args.dialogue.now.summary) c.args.line.now
    (g.W.Output.contents c.args.out.now) (g.W.Output.contents c.take_now.new.out) c.in-Some.range (sym c.in-Some.ensures) (state g.D.Store c.args.conn.now) (state g.D.Store c.take_now.new.conn) c.take_now.result c.take_now.ensures.part

pub returns-in-None-clause-goes : goal.returns-in-None-clause-goes
returns-in-None-clause-goes g c =
    goes_other (AreSupplied g.S.Supply.gives g.K.MapKind.seen) (AreFilesOf (g.R.FileReader.may_read c.args.rt.now)) (StaysOnDisk (state g.D.Store c.args.conn.now) (state g.D.Store c.hear_line.new.conn) c.args.book.now.plain) c.args.line.now
    c.args.supply.now (standing (console_of c.args.book.now.plain c.args.dialogue.now.runs) c.args.dialogue.now.summary)
    (standing (console_of c.hear_line.new.book.plain c.hear_line.new.dialogue.runs) c.hear_line.new.dialogue.summary) (g.W.Output.contents c.args.out.now) (g.W.Output.contents c.hear_line.new.out)
    c.hear_line.new.supply c.hear_line.result (sym c.in-None.ensures) c.hear_line.ensures.goes
