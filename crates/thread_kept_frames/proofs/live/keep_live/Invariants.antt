use Rattle.sqlite.specs.State.{HasCleanDisk}
use Rattle.sqlite.specs.Held.{state}
use Rattle.console_input.specs.Named.{AreFilesOf}
use Rattle.console_script.specs.Frames.{console_of}
use Rattle.console_script.specs.Supplied.{AreSupplied}
use Rattle.console_talk.specs.Talk.{standing, place, silent}
use Rattle.console_talk.proofs.Spoken.{StillTakes}
use Rattle.kept_ledger.specs.TermsView.{PlainTerms}
use Rattle.kept_lines.specs.Kept.{IsOnDisk}
use Rattle.kept_host.specs.Talks.{StaysOnDisk}
use Rattle.thread_kept_frames.specs.Courses.{start}
use Rattle.thread_kept_frames.specs.Living.{beside, HasLived}
use Rattle.thread_kept_frames.proofs.live.keep_live.Given as goal

abbrev pub invariant-turns : goal.invariant-turns
invariant-turns g l = record {
  lived : HasLived l.flow.frames.items l.flow.passes (AreSupplied g.S.Supply.gives g.K.MapKind.seen) (AreFilesOf (g.R.FileReader.may_read l.rt)) (StaysOnDisk (state g.D.Store l.fn.conn) (state g.D.Store l.conn) l.fn.book.plain)
      (g.L.Lines.remaining l.fn.lines) (beside (place l.fn.supply (silent l.fn.book.plain) (g.W.Output.contents l.fn.out)) start) (g.L.Lines.remaining l.lines)
      (beside (place l.supply (standing (console_of l.host.book.plain l.host.dialogue.runs) l.host.dialogue.summary) (g.W.Output.contents l.out)) l.host.course);
  takes : StillTakes (g.L.Lines.remaining l.fn.lines) (g.L.Lines.remaining l.lines) l.left;
  clean : HasCleanDisk (state g.D.Store l.conn) → HasCleanDisk (state g.D.Store l.fn.conn);
  disk : HasCleanDisk (state g.D.Store l.conn) → (t : PlainTerms) → IsOnDisk t (state g.D.Store l.fn.conn) l.fn.book.plain → IsOnDisk t (state g.D.Store l.conn) l.host.book.plain;
}
