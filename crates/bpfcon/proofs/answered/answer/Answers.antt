use Rattle.std.proofs.Common.{◌∷◌, sym, None}
use Rattle.bt_console.specs.Frames.{console_of}
use Rattle.console_script.specs.Transcript.{session_of}
use Rattle.console_talk.proofs.Spoken.{leads_kept}
use Rattle.bpfcon.proofs.SpokenLive.{whenever}
use Rattle.bpfcon.proofs.answered.answer.Goals as goal

pub returns-in-None-clause-done : goal.returns-in-None-clause-done
returns-in-None-clause-done g c = λ left. (_, rw c.in-Ok.ensures.counts at (c.in-Ok.ensures.leads left))

pub returns-in-Some-clause-done : goal.returns-in-Some-clause-done
returns-in-Some-clause-done g c = whenever c.explain.result (λ left. (
  _,
  rw (sym c.explain.ensures.same) at
      (leads_kept g.S.Supply.gives g.K.MapKind.seen c.args.files.now c.args.supply.now c.run.new.supply
      (session_of (console_of c.args.book.now.plain c.args.dialogue.now.runs) c.args.dialogue.now.summary (c.args.place.line.now ∷ left) None)
      (session_of (console_of c.run.new.book.plain c.run.new.self.runs) c.run.new.self.summary left None)
      (g.W.Output.contents c.args.out.now) (g.W.Output.contents c.run.new.out) (g.W.Output.contents c.explain.new.out)
      (rw c.in-Ok.ensures.counts at (c.in-Ok.ensures.leads left)) c.explain.ensures.written),
))
