use Rattle.std.proofs.Common.{None, sym, ◌∙◌}
use Rattle.sqlite.specs.Held.{state}
use Rattle.console_operand.specs.Line.{lines_of}
use Rattle.console_script.specs.Frames.{console_of}
use Rattle.console_script.specs.Transcript.{session_of}
use Rattle.console_script.proofs.StepRuns.{ran_all, at_end}
use Rattle.kept_lines.specs.declared.fault.LinesFault.TheVariants.{CannotKeep}
use Rattle.kept_lines.specs.Kept.{IsOnDisk, script_on}
use Rattle.kept_lines.proofs.Standing.{begins, stands_line, stands_held, all_written, all_kept, all_clean, lost_clean, stops_here, stops_lost}
use Rattle.kept_lines.proofs.Leaving.{leaves_all, leaves_stopped}
use Rattle.kept_lines.proofs.Added.{added_none, added_then, either_clean}
use Rattle.kept_lines.proofs.script.keep_lines.Goals as goal

pub lines-init : goal.lines-init
lines-init g c = (
  rw (c.new-runs.ensures, c.as_slice-rest.ensures.value)
      (begins g.S.Supply.gives g.K.MapKind.seen c.args.script.now.files.items c.args.supply.now (script_on c.args.book.now.plain c.args.script.now.text.items) (g.W.Output.contents c.args.out.now) (state g.D.Store c.args.conn.now)
      c.new-group.result.events.items c.new-group.result.text.items c.new-group.ensures.events c.new-group.ensures.text),
  added_none c.args.time (state g.D.Store c.args.conn.now),
)

pub lines-preserved : goal.lines-preserved
lines-preserved g c =
    let gives = g.S.Supply.gives in
    let seen = g.K.MapKind.seen in
    let files = c.args.script.now.files.items in
    let from = c.args.supply.now in
    let opening = script_on c.args.book.now.plain c.args.script.now.text.items in
    let old = g.W.Output.contents c.args.out.now in
    let start = state g.D.Store c.args.conn.now in
    let now = g.W.Output.contents c.lines.out in
    let cur = state g.D.Store c.lines.conn in
    let more =
    stands_line gives seen files from opening old start now c.lines.group.events.items c.lines.group.text.items c.lines.supply (console_of c.lines.book.plain c.lines.runs) c.lines.summary c.lines.rest.now cur c.lines.invariant.0
    c.first_line.result.0.now c.first_line.result.1.now c.first_line.ensures.lines c.as_slice-files.result.now c.as_slice-files.ensures.value c.keep_line_or_batch.new.supply
    (console_of c.keep_line_or_batch.new.book.plain c.keep_line_or_batch.new.runs) c.in-Ok.tally.summary c.keep_line_or_batch.new.group.events.items c.keep_line_or_batch.new.group.text.items
    (c.in-Ok.ensures.leads (lines_of c.first_line.result.1.now)) c.in-Ok.ensures.notes in
    let end = session_of (console_of c.keep_line_or_batch.new.book.plain c.keep_line_or_batch.new.runs) c.in-Ok.tally.summary (lines_of c.first_line.result.1.now) None in
    let next = state g.D.Store c.settle.new.conn in
    let still_clean = either_clean cur next now (g.W.Output.contents c.settle.new.out) c.keep_line_or_batch.new.group.events.items c.settle.new.group.events.items c.keep_line_or_batch.new.group.text.items c.settle.new.group.text.items c.in-Ok-settle.ensures.flushed in (
      rw c.settle.ensures.same
          (stands_held gives seen files from opening old start now c.keep_line_or_batch.new.group.events.items c.keep_line_or_batch.new.group.text.items c.keep_line_or_batch.new.supply end cur more
          (g.W.Output.contents c.settle.new.out) next c.settle.new.group.events.items c.settle.new.group.text.items c.in-Ok-settle.ensures.flushed),
      added_then c.args.time start cur next still_clean c.lines.invariant.1 c.in-Ok-settle.ensures.times,
    )

pub returns-in-Err-clause-stops : goal.returns-in-Err-clause-stops
returns-in-Err-clause-stops g c =
    let gives = g.S.Supply.gives in
    let seen = g.K.MapKind.seen in
    let files = c.args.script.now.files.items in
    let from = c.args.supply.now in
    let opening = script_on c.args.book.now.plain c.args.script.now.text.items in
    let old = g.W.Output.contents c.args.out.now in
    let start = state g.D.Store c.args.conn.now in
    let now = g.W.Output.contents c.lines.out in
    let cur = state g.D.Store c.lines.conn in
    let end = session_of (console_of c.lines.book.plain c.lines.runs) c.lines.summary (lines_of c.lines.rest.now) None in
    stops_here gives seen files from opening old start now c.lines.group.events.items c.lines.group.text.items c.lines.supply end cur c.lines.invariant.0 c.in-Err.fault

pub returns-in-Err-settle-clause-stops : goal.returns-in-Err-settle-clause-stops
returns-in-Err-settle-clause-stops g c =
    let gives = g.S.Supply.gives in
    let seen = g.K.MapKind.seen in
    let files = c.args.script.now.files.items in
    let from = c.args.supply.now in
    let opening = script_on c.args.book.now.plain c.args.script.now.text.items in
    let old = g.W.Output.contents c.args.out.now in
    let start = state g.D.Store c.args.conn.now in
    let now = g.W.Output.contents c.lines.out in
    let cur = state g.D.Store c.lines.conn in
    let more =
    stands_line gives seen files from opening old start now c.lines.group.events.items c.lines.group.text.items c.lines.supply (console_of c.lines.book.plain c.lines.runs) c.lines.summary c.lines.rest.now cur c.lines.invariant.0
    c.first_line.result.0.now c.first_line.result.1.now c.first_line.ensures.lines c.as_slice-files.result.now c.as_slice-files.ensures.value c.keep_line_or_batch.new.supply
    (console_of c.keep_line_or_batch.new.book.plain c.keep_line_or_batch.new.runs) c.in-Ok.tally.summary c.keep_line_or_batch.new.group.events.items c.keep_line_or_batch.new.group.text.items
    (c.in-Ok.ensures.leads (lines_of c.first_line.result.1.now)) c.in-Ok.ensures.notes in
    let end = session_of (console_of c.keep_line_or_batch.new.book.plain c.keep_line_or_batch.new.runs) c.in-Ok.tally.summary (lines_of c.first_line.result.1.now) None in
    stops_lost gives seen files from opening old start now c.keep_line_or_batch.new.group.events.items c.keep_line_or_batch.new.group.text.items c.keep_line_or_batch.new.supply end cur more
    (g.W.Output.contents c.settle.new.out) (state g.D.Store c.settle.new.conn) c.in-Err-settle.fault c.in-Err-settle.ensures.lost

pub returns-in-Ok-flush-clause-ran : goal.returns-in-Ok-flush-clause-ran
returns-in-Ok-flush-clause-ran g c =
    let gives = g.S.Supply.gives in
    let seen = g.K.MapKind.seen in
    let files = c.args.script.now.files.items in
    let from = c.args.supply.now in
    let opening = script_on c.args.book.now.plain c.args.script.now.text.items in
    let old = g.W.Output.contents c.args.out.now in
    let start = state g.D.Store c.args.conn.now in
    let now = g.W.Output.contents c.lines.out in
    let cur = state g.D.Store c.lines.conn in
    let end = session_of (console_of c.lines.book.plain c.lines.runs) c.lines.summary (lines_of c.lines.rest.now) None in
    ran_all gives seen files from c.lines.supply old (g.W.Output.contents c.flush.new.out) c.args.book.now.plain c.args.script.now.text.items c.lines.rest.now (console_of c.lines.book.plain c.lines.runs) c.lines.summary
    (all_written gives seen files from opening old start now c.lines.group.events.items c.lines.group.text.items c.lines.supply end cur c.lines.invariant.0
    (g.W.Output.contents c.flush.new.out) (state g.D.Store c.flush.new.conn) c.flush.new.group.events.items c.flush.new.group.text.items c.in-Ok-flush.ensures.flushed)
    (at_end c.lines.rest.now (sym c.is_empty.ensures ∙ c.lines-test.false))

pub returns-in-Ok-flush-clause-kept : goal.returns-in-Ok-flush-clause-kept
returns-in-Ok-flush-clause-kept g c =
    let gives = g.S.Supply.gives in
    let seen = g.K.MapKind.seen in
    let files = c.args.script.now.files.items in
    let from = c.args.supply.now in
    let opening = script_on c.args.book.now.plain c.args.script.now.text.items in
    let old = g.W.Output.contents c.args.out.now in
    let start = state g.D.Store c.args.conn.now in
    let now = g.W.Output.contents c.lines.out in
    let cur = state g.D.Store c.lines.conn in
    let end = session_of (console_of c.lines.book.plain c.lines.runs) c.lines.summary (lines_of c.lines.rest.now) None in
    all_kept gives seen files from opening old start now c.lines.group.events.items c.lines.group.text.items c.lines.supply end cur c.lines.invariant.0
    (g.W.Output.contents c.flush.new.out) (state g.D.Store c.flush.new.conn) c.flush.new.group.events.items c.flush.new.group.text.items c.in-Ok-flush.ensures.flushed

pub returns-clause-stops : goal.returns-clause-stops
returns-clause-stops g c =
    let gives = g.S.Supply.gives in
    let seen = g.K.MapKind.seen in
    let files = c.args.script.now.files.items in
    let from = c.args.supply.now in
    let opening = script_on c.args.book.now.plain c.args.script.now.text.items in
    let old = g.W.Output.contents c.args.out.now in
    let start = state g.D.Store c.args.conn.now in
    let now = g.W.Output.contents c.lines.out in
    let cur = state g.D.Store c.lines.conn in
    let end = session_of (console_of c.lines.book.plain c.lines.runs) c.lines.summary (lines_of c.lines.rest.now) None in
    stops_lost gives seen files from opening old start now c.lines.group.events.items c.lines.group.text.items c.lines.supply end cur c.lines.invariant.0
    (g.W.Output.contents c.flush.new.out) (state g.D.Store c.flush.new.conn) c.in-Err-flush.fault c.in-Err-flush.ensures.lost

pub returns-in-Err-clause-left : goal.returns-in-Err-clause-left
returns-in-Err-clause-left g c =
    leaves_stopped c.args.script.now.files.items (script_on c.args.book.now.plain c.args.script.now.text.items) (λ t. IsOnDisk t (state g.D.Store c.args.conn.now) c.args.book.now.plain) (state g.D.Store c.lines.conn) (g.W.Output.contents c.args.out.now) (g.W.Output.contents c.lines.out)
    (CannotKeep c.in-Err.fault) (returns-in-Err-clause-stops g c)

pub returns-in-Err-settle-clause-left : goal.returns-in-Err-settle-clause-left
returns-in-Err-settle-clause-left g c =
    leaves_stopped c.args.script.now.files.items (script_on c.args.book.now.plain c.args.script.now.text.items) (λ t. IsOnDisk t (state g.D.Store c.args.conn.now) c.args.book.now.plain) (state g.D.Store c.settle.new.conn) (g.W.Output.contents c.args.out.now) (g.W.Output.contents c.settle.new.out)
    c.in-Err-settle.fault (returns-in-Err-settle-clause-stops g c)

pub returns-in-Ok-flush-clause-left : goal.returns-in-Ok-flush-clause-left
returns-in-Ok-flush-clause-left g c =
    let ran = returns-in-Ok-flush-clause-ran g c in
    leaves_all c.args.script.now.files.items (script_on c.args.book.now.plain c.args.script.now.text.items) (λ t. IsOnDisk t (state g.D.Store c.args.conn.now) c.args.book.now.plain) (state g.D.Store c.flush.new.conn) (g.W.Output.contents c.args.out.now) (g.W.Output.contents c.flush.new.out)
    c.lines.book.plain ran.run ran.right ran.written ran.book (returns-in-Ok-flush-clause-kept g c)

pub returns-clause-left : goal.returns-clause-left
returns-clause-left g c =
    leaves_stopped c.args.script.now.files.items (script_on c.args.book.now.plain c.args.script.now.text.items) (λ t. IsOnDisk t (state g.D.Store c.args.conn.now) c.args.book.now.plain) (state g.D.Store c.flush.new.conn) (g.W.Output.contents c.args.out.now) (g.W.Output.contents c.flush.new.out)
    c.in-Err-flush.fault (returns-clause-stops g c)

pub returns-in-Err-clause-clean : goal.returns-in-Err-clause-clean
returns-in-Err-clause-clean g c = c.lines.invariant.0.clean

pub returns-in-Err-settle-clause-clean : goal.returns-in-Err-settle-clause-clean
returns-in-Err-settle-clause-clean g c =
    let gives = g.S.Supply.gives in
    let seen = g.K.MapKind.seen in
    let files = c.args.script.now.files.items in
    let from = c.args.supply.now in
    let opening = script_on c.args.book.now.plain c.args.script.now.text.items in
    let old = g.W.Output.contents c.args.out.now in
    let start = state g.D.Store c.args.conn.now in
    let now = g.W.Output.contents c.lines.out in
    let cur = state g.D.Store c.lines.conn in
    let more =
    stands_line gives seen files from opening old start now c.lines.group.events.items c.lines.group.text.items c.lines.supply (console_of c.lines.book.plain c.lines.runs) c.lines.summary c.lines.rest.now cur c.lines.invariant.0
    c.first_line.result.0.now c.first_line.result.1.now c.first_line.ensures.lines c.as_slice-files.result.now c.as_slice-files.ensures.value c.keep_line_or_batch.new.supply
    (console_of c.keep_line_or_batch.new.book.plain c.keep_line_or_batch.new.runs) c.in-Ok.tally.summary c.keep_line_or_batch.new.group.events.items c.keep_line_or_batch.new.group.text.items
    (c.in-Ok.ensures.leads (lines_of c.first_line.result.1.now)) c.in-Ok.ensures.notes in
    let end = session_of (console_of c.keep_line_or_batch.new.book.plain c.keep_line_or_batch.new.runs) c.in-Ok.tally.summary (lines_of c.first_line.result.1.now) None in
    lost_clean gives seen files from opening old start now c.keep_line_or_batch.new.group.events.items c.keep_line_or_batch.new.group.text.items c.keep_line_or_batch.new.supply end cur more
    (g.W.Output.contents c.settle.new.out) (state g.D.Store c.settle.new.conn) c.in-Err-settle.fault c.in-Err-settle.ensures.lost

pub returns-in-Ok-flush-clause-clean : goal.returns-in-Ok-flush-clause-clean
returns-in-Ok-flush-clause-clean g c =
    let gives = g.S.Supply.gives in
    let seen = g.K.MapKind.seen in
    let files = c.args.script.now.files.items in
    let from = c.args.supply.now in
    let opening = script_on c.args.book.now.plain c.args.script.now.text.items in
    let old = g.W.Output.contents c.args.out.now in
    let start = state g.D.Store c.args.conn.now in
    let now = g.W.Output.contents c.lines.out in
    let cur = state g.D.Store c.lines.conn in
    let end = session_of (console_of c.lines.book.plain c.lines.runs) c.lines.summary (lines_of c.lines.rest.now) None in
    all_clean gives seen files from opening old start now c.lines.group.events.items c.lines.group.text.items c.lines.supply end cur c.lines.invariant.0
    (g.W.Output.contents c.flush.new.out) (state g.D.Store c.flush.new.conn) c.flush.new.group.events.items c.flush.new.group.text.items c.in-Ok-flush.ensures.flushed

pub returns-clause-clean : goal.returns-clause-clean
returns-clause-clean g c =
    let gives = g.S.Supply.gives in
    let seen = g.K.MapKind.seen in
    let files = c.args.script.now.files.items in
    let from = c.args.supply.now in
    let opening = script_on c.args.book.now.plain c.args.script.now.text.items in
    let old = g.W.Output.contents c.args.out.now in
    let start = state g.D.Store c.args.conn.now in
    let now = g.W.Output.contents c.lines.out in
    let cur = state g.D.Store c.lines.conn in
    let end = session_of (console_of c.lines.book.plain c.lines.runs) c.lines.summary (lines_of c.lines.rest.now) None in
    lost_clean gives seen files from opening old start now c.lines.group.events.items c.lines.group.text.items c.lines.supply end cur c.lines.invariant.0
    (g.W.Output.contents c.flush.new.out) (state g.D.Store c.flush.new.conn) c.in-Err-flush.fault c.in-Err-flush.ensures.lost

pub returns-in-Ok-flush-clause-times : goal.returns-in-Ok-flush-clause-times
returns-in-Ok-flush-clause-times g c =
    added_then c.args.time (state g.D.Store c.args.conn.now) (state g.D.Store c.lines.conn) (state g.D.Store c.flush.new.conn) c.in-Ok-flush.ensures.flushed.clean c.lines.invariant.1 c.in-Ok-flush.ensures.times
