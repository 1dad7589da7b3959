use Rattle.std.proofs.Common.{[], inl, refl, sym, ap}
use Rattle.bt_console.specs.Frames.{console_of}
use Rattle.console_input.specs.Named.{AreFilesOf}
use Rattle.console_talk.specs.Talk.{standing, Asks}
use Rattle.console_talk.proofs.Spoken.{ends_so, goes_on, heard, looked}
use Rattle.bpfcon.proofs.talk.hear.Goals as goal

pub returns-then-is_asked_by-clause-ran : goal.returns-then-is_asked_by-clause-ran
returns-then-is_asked_by-clause-ran g c = (
  [],
  inl (record {
    asks = ends_so c.is_asked_by.result (Asks c.args.manner c.args.place.line.now) c.is_asked_by.ensures c.if-is_asked_by.true;
    boxes = refl;
    is = refl;
    written = refl;
  }),
)

pub returns-in-Some-clause-ran : goal.returns-in-Some-clause-ran
returns-in-Some-clause-ran g c =
    looked g.S.Supply.gives g.K.MapKind.seen (AreFilesOf (g.R.FileReader.may_read c.args.rt.now)) c.args.manner c.args.place.line.now c.in-Some.look c.args.supply.now
    (standing (console_of c.args.book.now.plain c.args.dialogue.now.runs) c.args.dialogue.now.summary)
    (standing (console_of c.look_now.new.book.plain c.args.dialogue.now.runs) c.args.dialogue.now.summary)
    (g.W.Output.contents c.args.out.now) (g.W.Output.contents c.look_now.new.out) c.look_now.result
    (goes_on c.is_asked_by.result (Asks c.args.manner c.args.place.line.now) c.is_asked_by.ensures c.if-is_asked_by.false) (sym c.in-Some.ensures)
    (ap (λ b. standing (console_of b c.args.dialogue.now.runs) c.args.dialogue.now.summary) c.look_now.ensures.same) c.look_now.ensures.told

pub returns-in-None-clause-ran : goal.returns-in-None-clause-ran
returns-in-None-clause-ran g c =
    heard g.S.Supply.gives g.K.MapKind.seen (AreFilesOf (g.R.FileReader.may_read c.args.rt.now)) c.args.manner c.args.place.line.now c.args.supply.now c.answer_now-ran.new.supply
    (standing (console_of c.args.book.now.plain c.args.dialogue.now.runs) c.args.dialogue.now.summary)
    (standing (console_of c.answer_now-ran.new.book.plain c.answer_now-ran.new.dialogue.runs) c.answer_now-ran.new.dialogue.summary)
    (g.W.Output.contents c.args.out.now) (g.W.Output.contents c.answer_now-ran.new.out) c.answer_now-ran.result
    (goes_on c.is_asked_by.result (Asks c.args.manner c.args.place.line.now) c.is_asked_by.ensures c.if-is_asked_by.false) (sym c.in-None.ensures) c.answer_now-ran.ensures.answered
