use Rattle.std.proofs.Common.{[], ap}
use Rattle.std.proofs.KnownBytes.{Appends-kept}
use Rattle.sqlite.specs.Held.{state}
use Rattle.console_input.specs.Named.{AreFilesOf}
use Rattle.console_script.specs.Frames.{console_of}
use Rattle.console_script.specs.Transcript.{Session, transcript}
use Rattle.console_talk.specs.Talk.{said, standing, before, behind}
use Rattle.console_talk.proofs.Spoken.{answered_by, leads_kept}
use Rattle.kept_lines.specs.Kept.{IsOnDisk}
use Rattle.kept_lines.proofs.Leaving.{leaves_all, leaves_stopped}
use Rattle.kept_host.proofs.Talking.{part_none, part_front}
use Rattle.kept_host.proofs.talk.keep_now.Goals as goal

pub returns-clause-answered : goal.returns-clause-answered
returns-clause-answered g c =
    let gives = g.S.Supply.gives in
    let seen = g.K.MapKind.seen in
    let files = c.as_slice-files.result.now in
    let at = standing (console_of c.args.book.now.plain c.args.dialogue.now.runs) c.args.dialogue.now.summary in
    let end = standing (console_of c.keep.new.book.plain c.keep.new.self.runs) c.keep.new.self.summary in
    let out = g.W.Output.contents in
    let line = c.args.line.now in
    let leads = leads_kept gives seen files c.args.supply.now c.keep.new.supply (before at line) (behind end) (out c.args.out.now) (out c.flush_all.new.self) (out c.told.new.out)
    (leads_kept gives seen files c.args.supply.now c.keep.new.supply (before at line) (behind end) (out c.args.out.now) (out c.keep.new.out) (out c.flush_all.new.self) (c.in-Ok-keep.ensures.leads []) c.flush_all.ensures.bytes) c.told.ensures.kept in (
      files,
      rw c.told.ensures.same
          (answered_by gives seen (AreFilesOf (g.R.FileReader.may_read c.args.rt.now)) (said line files) c.args.supply.now c.keep.new.supply at end (out c.args.out.now) (out c.told.new.out)
          (rw c.as_slice-files.ensures.value c.in-Ok.ensures) leads),
    )

pub returns-clause-kept : goal.returns-clause-kept
returns-clause-kept g c = rw c.told.ensures.same c.in-Ok-keep.ensures.kept

pub returns-in-Err-clause-part : goal.returns-in-Err-clause-part
returns-in-Err-clause-part g c clean t on =
    part_none (AreFilesOf (g.R.FileReader.may_read c.args.rt.now)) (standing (console_of c.args.book.now.plain c.args.dialogue.now.runs) c.args.dialogue.now.summary) c.args.line.now
    (g.W.Output.contents c.args.out.now) t (state g.D.Store c.args.conn.now) on.leaves

pub returns-in-Err-keep-clause-part : goal.returns-in-Err-keep-clause-part
returns-in-Err-keep-clause-part g c clean t on =
    let at = standing (console_of c.args.book.now.plain c.args.dialogue.now.runs) c.args.dialogue.now.summary in
    let files = c.as_slice-files.result.now in
    part_front (AreFilesOf (g.R.FileReader.may_read c.args.rt.now)) at c.args.line.now (g.W.Output.contents c.args.out.now) t (state g.D.Store c.keep.new.conn) files (g.W.Output.contents c.keep.new.out)
    (rw c.as_slice-files.ensures.value c.in-Ok.ensures)
    (leaves_stopped files (before at c.args.line.now) (λ t. IsOnDisk t (state g.D.Store c.args.conn.now) c.args.book.now.plain) (state g.D.Store c.keep.new.conn) (g.W.Output.contents c.args.out.now) (g.W.Output.contents c.keep.new.out)
    c.in-Err-keep.fault c.in-Err-keep.ensures.stops clean t on)

pub returns-in-Err-flush_all-clause-part : goal.returns-in-Err-flush_all-clause-part
returns-in-Err-flush_all-clause-part g c clean t on =
    let at = standing (console_of c.args.book.now.plain c.args.dialogue.now.runs) c.args.dialogue.now.summary in
    let files = c.as_slice-files.result.now in
    let it = c.in-Ok-keep.ensures.leads [] in
    let out = g.W.Output.contents in
    part_front (AreFilesOf (g.R.FileReader.may_read c.args.rt.now)) at c.args.line.now (out c.args.out.now) t (state g.D.Store c.keep.new.conn) files (out c.flush_all.new.self) (rw c.as_slice-files.ensures.value c.in-Ok.ensures)
    (leaves_all files (before at c.args.line.now) (λ t. IsOnDisk t (state g.D.Store c.args.conn.now) c.args.book.now.plain) (state g.D.Store c.keep.new.conn) (out c.args.out.now) (out c.flush_all.new.self)
    c.keep.new.book.plain it.run it.right (Appends-kept (out c.args.out.now) (out c.keep.new.out) (out c.flush_all.new.self) (transcript files (before at c.args.line.now) it.run) it.wrote c.flush_all.ensures.bytes)
    (ap (λ (s : Session). s.console.book) it.is) c.in-Ok-keep.ensures.kept clean t on)
