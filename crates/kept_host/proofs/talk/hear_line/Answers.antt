use Rattle.std.proofs.Common.{[], inl, refl, sym, ap}
use Rattle.sqlite.specs.Held.{state}
use Rattle.console_input.specs.Named.{AreFilesOf}
use Rattle.console_script.specs.Frames.{console_of}
use Rattle.console_talk.specs.declared.manner.Manner.TheVariants.{Dialogue}
use Rattle.console_talk.specs.Talk.{standing, AsksForHelp}
use Rattle.console_talk.proofs.Spoken.{ends_so, goes_on, heard, looked}
use Rattle.kept_host.proofs.Talking.{part_look, still_kept}
use Rattle.kept_host.proofs.talk.hear_line.Goals as goal

pub returns-then-is_asked_by-clause-goes : goal.returns-then-is_asked_by-clause-goes
returns-then-is_asked_by-clause-goes g c = (
  [],
  inl (record {
    asks = ends_so c.is_asked_by.result (AsksForHelp c.args.line.now) c.is_asked_by.ensures c.if-is_asked_by.true;
    boxes = refl;
    is = refl;
    written = refl;
  }),
)

pub returns-in-Some-clause-goes : goal.returns-in-Some-clause-goes
returns-in-Some-clause-goes g c =
    looked g.S.Supply.gives g.K.MapKind.seen (AreFilesOf (g.R.FileReader.may_read c.args.rt.now)) Dialogue c.args.line.now c.in-Some.look c.args.supply.now
    (standing (console_of c.args.book.now.plain c.args.dialogue.now.runs) c.args.dialogue.now.summary)
    (standing (console_of c.told_look.new.book.plain c.args.dialogue.now.runs) c.args.dialogue.now.summary)
    (g.W.Output.contents c.args.out.now) (g.W.Output.contents c.told_look.new.out) c.told_look.result
    (goes_on c.is_asked_by.result (AsksForHelp c.args.line.now) c.is_asked_by.ensures c.if-is_asked_by.false) (sym c.in-Some.ensures)
    (ap (λ b. standing (console_of b c.args.dialogue.now.runs) c.args.dialogue.now.summary) c.told_look.ensures.same) c.told_look.ensures.told

pub returns-in-Some-clause-kept : goal.returns-in-Some-clause-kept
returns-in-Some-clause-kept g c clean t on = still_kept t (state g.D.Store c.args.conn.now) c.args.book.now.plain c.told_look.new.book.plain c.told_look.result c.told_look.ensures.same on

pub returns-in-Some-clause-part : goal.returns-in-Some-clause-part
returns-in-Some-clause-part g c =
    part_look (AreFilesOf (g.R.FileReader.may_read c.args.rt.now)) (standing (console_of c.args.book.now.plain c.args.dialogue.now.runs) c.args.dialogue.now.summary) c.args.line.now
    (g.W.Output.contents c.args.out.now) (g.W.Output.contents c.told_look.new.out) (state g.D.Store c.args.conn.now) c.in-Some.look c.told_look.result (sym c.in-Some.ensures) c.told_look.ensures.front

pub returns-in-None-clause-goes : goal.returns-in-None-clause-goes
returns-in-None-clause-goes g c =
    heard g.S.Supply.gives g.K.MapKind.seen (AreFilesOf (g.R.FileReader.may_read c.args.rt.now)) Dialogue c.args.line.now c.args.supply.now c.keep_now-kept.new.supply
    (standing (console_of c.args.book.now.plain c.args.dialogue.now.runs) c.args.dialogue.now.summary)
    (standing (console_of c.keep_now-kept.new.book.plain c.keep_now-kept.new.dialogue.runs) c.keep_now-kept.new.dialogue.summary)
    (g.W.Output.contents c.args.out.now) (g.W.Output.contents c.keep_now-kept.new.out) c.keep_now-kept.result
    (goes_on c.is_asked_by.result (AsksForHelp c.args.line.now) c.is_asked_by.ensures c.if-is_asked_by.false) (sym c.in-None.ensures) c.keep_now-kept.ensures.answered
