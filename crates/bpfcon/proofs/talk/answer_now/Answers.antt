use Rattle.std.proofs.Common.{[]}
use Rattle.console_input.specs.Named.{AreFilesOf}
use Rattle.bt_console.specs.Frames.{console_of}
use Rattle.console_talk.specs.Talk.{said, standing, before, behind}
use Rattle.console_talk.proofs.Spoken.{answered_by, leads_kept}
use Rattle.bpfcon.proofs.talk.answer_now.Goals as goal

pub returns-in-Ok-clause-answered : goal.returns-in-Ok-clause-answered
returns-in-Ok-clause-answered g c =
    let files = c.in_ok-files.files.items in
    let line = c.args.place.line.now in
    let at = standing (console_of c.args.book.now.plain c.args.dialogue.now.runs) c.args.dialogue.now.summary in
    let end = standing (console_of c.answer.new.book.plain c.answer.new.dialogue.runs) c.answer.new.dialogue.summary in (
      files,
      answered_by g.S.Supply.gives g.K.MapKind.seen (AreFilesOf (g.R.FileReader.may_read c.args.rt.now)) (said line files) c.args.supply.now c.answer.new.supply at end (g.W.Output.contents c.args.out.now)
          (g.W.Output.contents c.flush_all.new.self) c.in_ok-files.ensures
          (leads_kept g.S.Supply.gives g.K.MapKind.seen files c.args.supply.now c.answer.new.supply (before at line) (behind end) (g.W.Output.contents c.args.out.now) (g.W.Output.contents c.answer.new.out)
          (g.W.Output.contents c.flush_all.new.self) (rw c.as_slice.ensures.value at (c.in_ok-answer.ensures.done [])).1 c.flush_all.ensures.bytes),
    )
