use Rattle.sqlite.specs.State.{HasCleanDisk}
use Rattle.sqlite.specs.Held.{state}
use Rattle.console_input.specs.Named.{AreFilesOf}
use Rattle.console_script.specs.Frames.{console_of}
use Rattle.console_script.specs.Supplied.{AreSupplied}
use Rattle.console_talk.specs.Talk.{standing, place, silent}
use Rattle.console_talk.proofs.Spoken.{StillTakes}
use Rattle.kept_ledger.specs.TermsView.{PlainTerms}
use Rattle.kept_lines.specs.Kept.{IsOnDisk}
use Rattle.kept_host.specs.Talks.{StaysOnDisk, HasComeKept}
use Rattle.kept_host.proofs.talk.keep_talk.Given as goal

abbrev pub invariant-lines : goal.invariant-lines
invariant-lines g l = record {
  came : HasComeKept (AreSupplied g.S.Supply.gives g.K.MapKind.seen) (AreFilesOf (g.R.FileReader.may_read l.rt)) (StaysOnDisk (state g.D.Store l.fn.conn) (state g.D.Store l.conn) l.fn.book.plain) (g.I.Read.remaining l.fn.input)
      (place l.fn.supply (silent l.fn.book.plain) (g.W.Output.contents l.fn.out)) (g.I.Read.remaining l.input) (place l.supply (standing (console_of l.book.plain l.dialogue.runs) l.dialogue.summary) (g.W.Output.contents l.out));
  takes : StillTakes (g.I.Read.remaining l.fn.input) (g.I.Read.remaining l.input) l.left;
  clean : HasCleanDisk (state g.D.Store l.conn) → HasCleanDisk (state g.D.Store l.fn.conn);
  disk : HasCleanDisk (state g.D.Store l.conn) → (t : PlainTerms) → IsOnDisk t (state g.D.Store l.fn.conn) l.fn.book.plain → IsOnDisk t (state g.D.Store l.conn) l.book.plain;
}

abbrev pub decreases-lines : goal.decreases-lines
decreases-lines g l = l.left
