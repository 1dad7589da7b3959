use Rattle.std.proofs.Common.{refl, sym, ◌∙◌}
use Rattle.sqlite.specs.Held.{state}
use Rattle.console_input.specs.Named.{AreFilesOf}
use Rattle.console_script.specs.Frames.{console_of}
use Rattle.console_script.specs.Supplied.{AreSupplied}
use Rattle.console_script.proofs.StepRuns.{at_end}
use Rattle.console_talk.specs.declared.manner.Manner.TheVariants.{Dialogue}
use Rattle.console_talk.specs.Talk.{said, standing, place, silent, EndsDialogue}
use Rattle.console_talk.proofs.Spoken.{some_given, goes_on, ends_so, come_on, takes_none, takes_more, took, stops_at_end, stops_at_line}
use Rattle.kept_host.specs.Talks.{StaysOnDisk, GoesKept}
use Rattle.kept_host.proofs.RangeTalk.{goes_if, come_if}
use Rattle.kept_host.proofs.Talking.{come_first, next_line, front_here, front_further}
use Rattle.kept_host.proofs.talk.keep_talk.Goals.{then-is_empty, else-is_empty+then-is_ended_by}
use Rattle.kept_host.proofs.talk.keep_talk.Goals as goal

pub lines-init : goal.lines-init
lines-init g c = record {
  came = rw c.new-dialogue.ensures
      (come_first (AreSupplied g.S.Supply.gives g.K.MapKind.seen) (AreFilesOf (g.R.FileReader.may_read c.args.rt.now)) (g.I.Read.remaining c.args.input.now) (place c.args.supply.now (silent c.args.book.now.plain) (g.W.Output.contents c.args.out.now))
      (StaysOnDisk (state g.D.Store c.args.conn.now) (state g.D.Store c.args.conn.now) c.args.book.now.plain));
  takes = takes_none (g.I.Read.remaining c.args.input.now);
  clean = λ clean. clean;
  disk = λ clean t on. on;
}

pub lines-preserved : goal.lines-preserved
lines-preserved g c =
    let supplied = AreSupplied g.S.Supply.gives g.K.MapKind.seen in
    let named = AreFilesOf (g.R.FileReader.may_read c.args.rt.now) in
    let remaining = g.I.Read.remaining in
    let out = g.W.Output.contents in
    let disk = state g.D.Store in
    let first = place c.args.supply.now (silent c.args.book.now.plain) (out c.args.out.now) in
    let here = place c.lines.supply (standing (console_of c.lines.book.plain c.lines.dialogue.runs) c.lines.dialogue.summary) (out c.lines.out) in
    let next = place c.hear.new.supply (standing (console_of c.hear.new.book.plain c.hear.new.dialogue.runs) c.hear.new.dialogue.summary) (out c.hear.new.out) in
    let Before = StaysOnDisk (disk c.args.conn.now) (disk c.lines.conn) c.args.book.now.plain in
    let Line = StaysOnDisk (disk c.lines.conn) (disk c.hear.new.conn) c.lines.book.plain in
    let Now = StaysOnDisk (disk c.args.conn.now) (disk c.hear.new.conn) c.args.book.now.plain in
    let it = said c.first_line.result.0.now c.in-Ok-hear.ensures.goes.0 in
    record {
      came =
          come_on (GoesKept supplied named Now) Dialogue (remaining c.args.input.now) first (remaining c.lines.input) (remaining c.read_line.new.input) here next it c.read_line.new.line.items c.first_line.result.1.now
          (come_if supplied named Before Now (λ stays. (c.hear.ensures.clean stays.0, stays.1)) (remaining c.args.input.now) first (remaining c.lines.input) here c.lines.invariant.came) c.in-Ok.ensures.line c.in-Ok.ensures.rest
          (rw c.as_slice-text.ensures.value at (some_given _ (sym c.is_empty.ensures ∙ c.if-is_empty.false)))
          (rw c.as_slice-text.ensures.value at c.first_line.ensures.lines)
          (goes_on c.is_ended_by.result (EndsDialogue c.first_line.result.0.now) c.is_ended_by.ensures c.if-is_ended_by.false)
          (goes_if supplied named Line Now (λ stays. (stays.0, (stays.1.0, c.lines.invariant.disk (c.hear.ensures.clean stays.0) stays.1.0 stays.1.1))) it here next c.in-Ok-hear.ensures.goes.1);
      takes = takes_more (remaining c.args.input.now) (remaining c.lines.input) (remaining c.read_line.new.input) c.read_line.new.line.items c.lines.left _ c.lines.invariant.takes c.in-Ok.ensures.line c.in-Ok.ensures.rest
          c.in-Ok.ensures.left;
      clean = λ clean. c.lines.invariant.clean (c.hear.ensures.clean clean);
      disk = λ clean t on. c.in-Ok-hear.ensures.kept clean t (c.lines.invariant.disk (c.hear.ensures.clean clean) t on);
    }

pub returns-clause-talked : goal.returns-clause-talked
returns-clause-talked g c = record {
  unsaid = g.I.Read.remaining c.lines.input;
  end = standing (console_of c.lines.book.plain c.lines.dialogue.runs) c.lines.dialogue.summary;
  came = c.lines.invariant.came;
  stops = elim c.if-is_empty.branch [
    | then-is_empty w ↦
        stops_at_end Dialogue (g.I.Read.remaining c.lines.input) c.read_line.new.line.items c.in-Ok.ensures.line
        (rw c.as_slice-text.ensures.value at (at_end _ (sym c.is_empty.ensures ∙ w.if-is_empty.true)))
    | else-is_empty+then-is_ended_by w ↦
        stops_at_line Dialogue (g.I.Read.remaining c.lines.input) c.read_line.new.line.items w.first_line.result.0.now w.first_line.result.1.now c.in-Ok.ensures.line
        (rw c.as_slice-text.ensures.value at (some_given _ (sym c.is_empty.ensures ∙ w.if-is_empty.false)))
        (rw c.as_slice-text.ensures.value at w.first_line.ensures.lines)
        (ends_so w.is_ended_by.result (EndsDialogue w.first_line.result.0.now) w.is_ended_by.ensures w.if-is_ended_by.true)
  ];
  took = took (g.I.Read.remaining c.args.input.now) (g.I.Read.remaining c.lines.input) c.lines.left c.lines.invariant.takes;
  left = refl;
  counts = c.summary.ensures;
}

pub returns-clause-clean : goal.returns-clause-clean
returns-clause-clean g c = c.lines.invariant.clean

pub returns-clause-kept : goal.returns-clause-kept
returns-clause-kept g c = c.lines.invariant.disk

pub returns-in-Err-clause-clean : goal.returns-in-Err-clause-clean
returns-in-Err-clause-clean g c = c.lines.invariant.clean

pub returns-in-Err-clause-left : goal.returns-in-Err-clause-left
returns-in-Err-clause-left g c clean t on =
    let supplied = AreSupplied g.S.Supply.gives g.K.MapKind.seen in
    let named = AreFilesOf (g.R.FileReader.may_read c.args.rt.now) in
    let remaining = g.I.Read.remaining in
    let out = g.W.Output.contents in
    let disk = state g.D.Store in
    let first = place c.args.supply.now (silent c.args.book.now.plain) (out c.args.out.now) in
    let here = place c.lines.supply (standing (console_of c.lines.book.plain c.lines.dialogue.runs) c.lines.dialogue.summary) (out c.lines.out) in
    front_here supplied named (remaining c.args.input.now) first (StaysOnDisk (disk c.args.conn.now) (disk c.lines.conn) c.args.book.now.plain) (clean, (t, on)) (remaining c.lines.input) here c.lines.invariant.came t (disk c.lines.conn)
    (c.lines.invariant.disk clean t on).leaves

pub returns-in-Err-hear-clause-clean : goal.returns-in-Err-hear-clause-clean
returns-in-Err-hear-clause-clean g c clean = c.lines.invariant.clean (c.hear.ensures.clean clean)

pub returns-in-Err-hear-clause-left : goal.returns-in-Err-hear-clause-left
returns-in-Err-hear-clause-left g c clean t on =
    let supplied = AreSupplied g.S.Supply.gives g.K.MapKind.seen in
    let named = AreFilesOf (g.R.FileReader.may_read c.args.rt.now) in
    let remaining = g.I.Read.remaining in
    let out = g.W.Output.contents in
    let disk = state g.D.Store in
    let first = place c.args.supply.now (silent c.args.book.now.plain) (out c.args.out.now) in
    let here = place c.lines.supply (standing (console_of c.lines.book.plain c.lines.dialogue.runs) c.lines.dialogue.summary) (out c.lines.out) in
    let clean_before = c.hear.ensures.clean clean in
    front_further supplied named (remaining c.args.input.now) first (StaysOnDisk (disk c.args.conn.now) (disk c.lines.conn) c.args.book.now.plain) (clean_before, (t, on)) (remaining c.lines.input) here c.lines.invariant.came t
    (disk c.hear.new.conn) c.first_line.result.0.now (out c.hear.new.out)
    (next_line (remaining c.lines.input) c.read_line.new.line.items c.first_line.result.0.now c.first_line.result.1.now c.in-Ok.ensures.line
    (rw c.as_slice-text.ensures.value at (some_given _ (sym c.is_empty.ensures ∙ c.if-is_empty.false)))
    (rw c.as_slice-text.ensures.value at c.first_line.ensures.lines))
    (c.in-Err-hear.ensures.part clean t (c.lines.invariant.disk clean_before t on))
