use Rattle.std.proofs.Common.{[], inl, refl, sym}
use Rattle.console_input.specs.Named.{AreFilesOf}
use Rattle.thread_live.specs.Footings.{footing}
use Rattle.console_talk.specs.declared.manner.Manner.TheVariants.{Dialogue}
use Rattle.console_talk.specs.Talk.{Asks}
use Rattle.console_talk.proofs.Spoken.{ends_so, goes_on}
use Rattle.bpfcon.proofs.SpokenLive.{heard_live, looked_live}
use Rattle.bpfcon.proofs.live_talk.hear.Goals as goal

pub returns-then-is_asked_by-clause-goes : goal.returns-then-is_asked_by-clause-goes
returns-then-is_asked_by-clause-goes g c = (
  [],
  inl (record {
    asks = ends_so c.is_asked_by.result (Asks Dialogue c.args.place.line.now) c.is_asked_by.ensures c.if-is_asked_by.true;
    same = refl;
    counted = refl;
  }),
)

pub returns-in-Some-clause-goes : goal.returns-in-Some-clause-goes
returns-in-Some-clause-goes g c =
    looked_live g.S.Supply.gives g.K.MapKind.seen (AreFilesOf (g.R.FileReader.may_read c.args.rt.now)) c.args.desk.now c.args.traffic.now c.args.operator.now.most_moments c.args.place.line.now
    (footing c.args.operator.now.session c.args.seat.now (g.W.Output.contents c.args.out.now)) (footing c.args.operator.now.session c.args.seat.now (g.W.Output.contents c.look_now.new.out))
    c.args.operator.now.summary c.args.operator.now.summary c.look_now.result c.in-Some.look c.args.looker.now c.look_now.new.looker
    (goes_on c.is_asked_by.result (Asks Dialogue c.args.place.line.now) c.is_asked_by.ensures c.if-is_asked_by.false) (sym c.in-Some.ensures) c.requires.1 c.look_now.ensures.told refl refl refl

pub returns-in-None-clause-goes : goal.returns-in-None-clause-goes
returns-in-None-clause-goes g c =
    heard_live g.S.Supply.gives g.K.MapKind.seen (AreFilesOf (g.R.FileReader.may_read c.args.rt.now)) c.args.desk.now c.args.traffic.now c.args.operator.now.most_moments c.args.place.line.now
    (footing c.args.operator.now.session c.args.seat.now (g.W.Output.contents c.args.out.now)) (footing c.answer_now-ran.new.operator.session c.answer_now-ran.new.seat (g.W.Output.contents c.answer_now-ran.new.out))
    c.args.operator.now.summary c.answer_now-ran.new.operator.summary c.answer_now-ran.result
    (goes_on c.is_asked_by.result (Asks Dialogue c.args.place.line.now) c.is_asked_by.ensures c.if-is_asked_by.false) (sym c.in-None.ensures) c.answer_now-ran.ensures.answered
