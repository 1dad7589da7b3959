use Rattle.bt_console.specs.Frames.{console_of}
use Rattle.console_input.specs.Named.{AreFilesOf}
use Rattle.console_script.specs.Supplied.{AreSupplied}
use Rattle.console_talk.specs.Talk.{standing, HasCome}
use Rattle.console_talk.proofs.Spoken.{StillTakes}
use Rattle.bpfcon.proofs.talk.answer_lines.Given as goal

abbrev pub invariant-lines : goal.invariant-lines
invariant-lines g l = record {
  came : HasCome (AreSupplied g.S.Supply.gives g.K.MapKind.seen) (AreFilesOf (g.R.FileReader.may_read l.rt)) l.fn.manner (g.I.Read.remaining l.fn.input) l.fn.book.plain l.fn.supply (g.W.Output.contents l.fn.out)
      (g.I.Read.remaining l.input) l.supply (standing (console_of l.book.plain l.dialogue.runs) l.dialogue.summary) (g.W.Output.contents l.out);
  takes : StillTakes (g.I.Read.remaining l.fn.input) (g.I.Read.remaining l.input) l.left;
}

abbrev pub decreases-lines : goal.decreases-lines
decreases-lines g l = l.left
