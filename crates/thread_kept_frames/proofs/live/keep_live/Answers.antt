use Rattle.std.proofs.Common.{ℕ, List, Option, sym, ap, subst}
use Rattle.sqlite.specs.Held.{state}
use Rattle.console_input.specs.Named.{AreFilesOf}
use Rattle.console_script.specs.Frames.{console_of}
use Rattle.console_script.specs.Supplied.{AreSupplied}
use Rattle.console_script.specs.Dialogue.{DialogueView}
use Rattle.console_talk.specs.declared.manner.Manner.TheVariants.{Dialogue}
use Rattle.console_talk.specs.Talk.{said, standing, place, silent, EndsDialogue}
use Rattle.console_talk.proofs.Spoken.{StillTakes, goes_on, ends_so, takes_none, takes_more, took, stops_at_line}
use Rattle.kept_host.specs.Talks.{StaysOnDisk}
use Rattle.kept_host.proofs.RangeTalk.{goes_if}
use Rattle.kept_host.proofs.Talking.{next_line}
use Rattle.thread_kept_frames.specs.Courses.{start}
use Rattle.thread_kept_frames.specs.Living.{beside, HasLived}
use Rattle.thread_kept_frames.proofs.Turns.{lived_first, lived_flow, lived_line, lived_if, front_here, front_line, front_flow, stops_at_its_end}
use Rattle.thread_kept_frames.proofs.live.keep_live.Goals as goal

pub turns-init : goal.turns-init
turns-init g c = record {
  lived = rw (c.begun-host.ensures.book, c.begun-host.ensures.dialogue, c.begun-host.ensures.course)
      (lived_first c.args.flow.now.frames.items c.args.flow.now.passes (AreSupplied g.S.Supply.gives g.K.MapKind.seen) (AreFilesOf (g.R.FileReader.may_read c.args.rt.now)) (g.L.Lines.remaining c.args.lines.now)
      (beside (place c.args.supply.now (silent c.args.book.plain) (g.W.Output.contents c.args.out.now)) start)
      (StaysOnDisk (state g.D.Store c.args.conn.now) (state g.D.Store c.args.conn.now) c.args.book.plain));
  takes = takes_none (g.L.Lines.remaining c.args.lines.now);
  clean = λ clean. clean;
  disk = rw c.begun-host.ensures.book (λ clean t on. on);
}

-- ---- a line is answered
pub turns-preserved-in-Ok-Line : goal.turns-preserved-in-Ok-Line
turns-preserved-in-Ok-Line g c =
    let all = c.args.flow.now.frames.items in
    let passes = c.args.flow.now.passes in
    let supplied = AreSupplied g.S.Supply.gives g.K.MapKind.seen in
    let named = AreFilesOf (g.R.FileReader.may_read c.args.rt.now) in
    let remaining = g.L.Lines.remaining in
    let out = g.W.Output.contents in
    let disk = state g.D.Store in
    let input = remaining c.args.lines.now in
    let left = remaining c.turns.lines in
    let next = remaining c.hear.new.self in
    let first = beside (place c.args.supply.now (silent c.args.book.plain) (out c.args.out.now)) start in
    let at = place c.turns.supply (standing (console_of c.turns.host.book.plain c.turns.host.dialogue.runs) c.turns.host.dialogue.summary) (out c.turns.out) in
    let to = place c.answer.new.supply (standing (console_of c.in-Ok.host.book.plain c.in-Ok.host.dialogue.runs) c.in-Ok.host.dialogue.summary) (out c.answer.new.out) in
    let Before = StaysOnDisk (disk c.args.conn.now) (disk c.turns.conn) c.args.book.plain in
    let Line = StaysOnDisk (disk c.turns.conn) (disk c.answer.new.conn) c.turns.host.book.plain in
    let Now = StaysOnDisk (disk c.args.conn.now) (disk c.answer.new.conn) c.args.book.plain in
    let it = said c.first_line.result.0.now c.in-Ok.ensures.goes.0 in
    let given = c.hear.new.line.items in
    let after = c.first_line.result.1.now in
    let heard = rw c.in-Ok-Line.field-0-is at c.in-Ok-Line.ensures in
    record {
      lived = rw c.in-Ok.ensures.course
          (lived_line all passes supplied named input first Now left (beside at c.turns.host.course)
          (lived_if all passes supplied named input first Before Now (λ stays. (c.answer.ensures.clean stays.0, stays.1)) left (beside at c.turns.host.course) c.turns.invariant.lived)
          next it given after to heard.line_is heard.rest heard.some
          (rw c.as_slice.ensures.value at c.first_line.ensures.lines)
          (goes_on c.is_ended_by.result (EndsDialogue c.first_line.result.0.now) c.is_ended_by.ensures c.if-is_ended_by.false)
          (goes_if supplied named Line Now (λ stays. (stays.0, (stays.1.0, c.turns.invariant.disk (c.answer.ensures.clean stays.0) stays.1.0 stays.1.1))) it at to c.in-Ok.ensures.goes.1));
      takes = takes_more input left next given c.turns.left _ c.turns.invariant.takes heard.line_is heard.rest heard.counts;
      clean = λ clean. c.turns.invariant.clean (c.answer.ensures.clean clean);
      disk = λ clean t on. c.in-Ok.ensures.kept clean t (c.turns.invariant.disk (c.answer.ensures.clean clean) t on);
    }

-- ---- a portion is served and kept
pub turns-preserved : goal.turns-preserved
turns-preserved g c =
    let all = c.args.flow.now.frames.items in
    let passes = c.args.flow.now.passes in
    let supplied = AreSupplied g.S.Supply.gives g.K.MapKind.seen in
    let named = AreFilesOf (g.R.FileReader.may_read c.args.rt.now) in
    let remaining = g.L.Lines.remaining in
    let out = g.W.Output.contents in
    let disk = state g.D.Store in
    let input = remaining c.args.lines.now in
    let left = remaining c.turns.lines in
    let first = beside (place c.args.supply.now (silent c.args.book.plain) (out c.args.out.now)) start in
    let at = place c.turns.supply (standing (console_of c.turns.host.book.plain c.turns.host.dialogue.runs) c.turns.host.dialogue.summary) (out c.turns.out) in
    let here = beside at c.turns.host.course in
    let Before = StaysOnDisk (disk c.args.conn.now) (disk c.turns.conn) c.args.book.plain in
    let next = remaining c.hear.new.self in
    let to = c.in-Ok-flow_on.host in
    let there = beside (place c.turns.supply (standing (console_of to.book.plain to.dialogue.runs) to.dialogue.summary) (out c.turns.out)) to.course in
    let Now = StaysOnDisk (disk c.args.conn.now) (disk c.flow_on.new.conn) c.args.book.plain in
    let same = rw c.in-Ok-NotYet.field-0-is at c.in-Ok-NotYet.ensures in
    record {
      lived = subst (λ (rest : Option (List ℕ)). HasLived all passes supplied named Now input first rest there) (sym same)
          (lived_flow all passes supplied named input first Now left here
          (lived_if all passes supplied named input first Before Now (λ stays. (c.flow_on.ensures.clean stays.0, stays.1)) left here c.turns.invariant.lived)
          there c.in-Ok-flow_on.ensures.flowed
          (ap (λ (d : DialogueView). place c.turns.supply (standing (console_of to.book.plain d.runs) d.summary) (out c.turns.out)) c.in-Ok-flow_on.ensures.dialogue));
      takes = subst (λ (rest : Option (List ℕ)). StillTakes input rest c.turns.left) (sym same) c.turns.invariant.takes;
      clean = λ clean. c.turns.invariant.clean (c.flow_on.ensures.clean clean);
      disk = λ clean t on. c.in-Ok-flow_on.ensures.kept clean t (c.turns.invariant.disk (c.flow_on.ensures.clean clean) t on);
    }

-- ---- it came to its end
pub returns-then-is_ended_by-clause-lived : goal.returns-then-is_ended_by-clause-lived
returns-then-is_ended_by-clause-lived g c =
    let input = g.L.Lines.remaining c.args.lines.now in
    let left = g.L.Lines.remaining c.turns.lines in
    let heard = rw c.in-Ok-Line.field-0-is at c.in-Ok-Line.ensures in
    record {
      unsaid = left;
      end = standing (console_of c.turns.host.book.plain c.turns.host.dialogue.runs) c.turns.host.dialogue.summary;
      lived = rw c.ended.ensures.course c.turns.invariant.lived;
      stops = stops_at_line Dialogue left c.hear.new.line.items c.first_line.result.0.now c.first_line.result.1.now heard.line_is heard.some (rw c.as_slice.ensures.value at c.first_line.ensures.lines)
          (ends_so c.is_ended_by.result (EndsDialogue c.first_line.result.0.now) c.is_ended_by.ensures c.if-is_ended_by.true);
      took = took input left c.turns.left c.turns.invariant.takes;
      left = c.ended.ensures.book;
      counts = c.ended.ensures.summary;
    }

pub returns-in-Ok-End-clause-lived : goal.returns-in-Ok-End-clause-lived
returns-in-Ok-End-clause-lived g c =
    let input = g.L.Lines.remaining c.args.lines.now in
    let left = g.L.Lines.remaining c.turns.lines in
    record {
      unsaid = left;
      end = standing (console_of c.turns.host.book.plain c.turns.host.dialogue.runs) c.turns.host.dialogue.summary;
      lived = rw c.ended-in-Ok-End.ensures.course c.turns.invariant.lived;
      stops = stops_at_its_end left (rw c.in-Ok-End.field-0-is at c.in-Ok-End.ensures);
      took = took input left c.turns.left c.turns.invariant.takes;
      left = c.ended-in-Ok-End.ensures.book;
      counts = c.ended-in-Ok-End.ensures.summary;
    }

-- ---- it stopped
pub returns-in-Err-answer-clause-left : goal.returns-in-Err-answer-clause-left
returns-in-Err-answer-clause-left g c clean t on =
    let all = c.args.flow.now.frames.items in
    let passes = c.args.flow.now.passes in
    let supplied = AreSupplied g.S.Supply.gives g.K.MapKind.seen in
    let named = AreFilesOf (g.R.FileReader.may_read c.args.rt.now) in
    let remaining = g.L.Lines.remaining in
    let out = g.W.Output.contents in
    let disk = state g.D.Store in
    let input = remaining c.args.lines.now in
    let left = remaining c.turns.lines in
    let first = beside (place c.args.supply.now (silent c.args.book.plain) (out c.args.out.now)) start in
    let at = place c.turns.supply (standing (console_of c.turns.host.book.plain c.turns.host.dialogue.runs) c.turns.host.dialogue.summary) (out c.turns.out) in
    let here = beside at c.turns.host.course in
    let Before = StaysOnDisk (disk c.args.conn.now) (disk c.turns.conn) c.args.book.plain in
    let clean_before = c.answer.ensures.clean clean in
    let line = c.first_line.result.0.now in
    let heard = rw c.in-Ok-Line.field-0-is at c.in-Ok-Line.ensures in
    front_line all passes supplied named input first Before (clean_before, (t, on)) left here c.turns.invariant.lived t (disk c.answer.new.conn) line (out c.answer.new.out)
    (next_line left c.hear.new.line.items line c.first_line.result.1.now heard.line_is heard.some (rw c.as_slice.ensures.value at c.first_line.ensures.lines))
    (c.in-Err-answer.ensures.part clean t (c.turns.invariant.disk clean_before t on))

pub returns-in-Err-flow_on-clause-left : goal.returns-in-Err-flow_on-clause-left
returns-in-Err-flow_on-clause-left g c clean t on =
    let all = c.args.flow.now.frames.items in
    let passes = c.args.flow.now.passes in
    let supplied = AreSupplied g.S.Supply.gives g.K.MapKind.seen in
    let named = AreFilesOf (g.R.FileReader.may_read c.args.rt.now) in
    let remaining = g.L.Lines.remaining in
    let out = g.W.Output.contents in
    let disk = state g.D.Store in
    let input = remaining c.args.lines.now in
    let left = remaining c.turns.lines in
    let first = beside (place c.args.supply.now (silent c.args.book.plain) (out c.args.out.now)) start in
    let at = place c.turns.supply (standing (console_of c.turns.host.book.plain c.turns.host.dialogue.runs) c.turns.host.dialogue.summary) (out c.turns.out) in
    let here = beside at c.turns.host.course in
    let Before = StaysOnDisk (disk c.args.conn.now) (disk c.turns.conn) c.args.book.plain in
    let clean_before = c.flow_on.ensures.clean clean in
    front_flow all passes supplied named input first Before (clean_before, (t, on)) left here c.turns.invariant.lived t (disk c.flow_on.new.conn) (c.in-Err-flow_on.ensures.left clean t (c.turns.invariant.disk clean_before t on))

pub returns-in-Err-clause-left : goal.returns-in-Err-clause-left
returns-in-Err-clause-left g c clean t on =
    let all = c.args.flow.now.frames.items in
    let passes = c.args.flow.now.passes in
    let supplied = AreSupplied g.S.Supply.gives g.K.MapKind.seen in
    let named = AreFilesOf (g.R.FileReader.may_read c.args.rt.now) in
    let remaining = g.L.Lines.remaining in
    let out = g.W.Output.contents in
    let disk = state g.D.Store in
    let input = remaining c.args.lines.now in
    let left = remaining c.turns.lines in
    let first = beside (place c.args.supply.now (silent c.args.book.plain) (out c.args.out.now)) start in
    let at = place c.turns.supply (standing (console_of c.turns.host.book.plain c.turns.host.dialogue.runs) c.turns.host.dialogue.summary) (out c.turns.out) in
    let here = beside at c.turns.host.course in
    let Before = StaysOnDisk (disk c.args.conn.now) (disk c.turns.conn) c.args.book.plain in
    front_here all passes supplied named input first Before (clean, (t, on)) left here c.turns.invariant.lived t (disk c.turns.conn) (c.turns.invariant.disk clean t on).leaves

-- ---- the disk, and good frames
pub returns-then-is_ended_by-clause-clean : goal.returns-then-is_ended_by-clause-clean
returns-then-is_ended_by-clause-clean g c = c.turns.invariant.clean

pub returns-then-is_ended_by-clause-kept : goal.returns-then-is_ended_by-clause-kept
returns-then-is_ended_by-clause-kept g c = rw c.ended.ensures.book c.turns.invariant.disk

pub returns-in-Ok-End-clause-clean : goal.returns-in-Ok-End-clause-clean
returns-in-Ok-End-clause-clean g c = c.turns.invariant.clean

pub returns-in-Ok-End-clause-kept : goal.returns-in-Ok-End-clause-kept
returns-in-Ok-End-clause-kept g c = rw c.ended-in-Ok-End.ensures.book c.turns.invariant.disk

pub returns-in-Err-answer-clause-clean : goal.returns-in-Err-answer-clause-clean
returns-in-Err-answer-clause-clean g c clean = c.turns.invariant.clean (c.answer.ensures.clean clean)

pub returns-in-Err-flow_on-clause-clean : goal.returns-in-Err-flow_on-clause-clean
returns-in-Err-flow_on-clause-clean g c clean = c.turns.invariant.clean (c.flow_on.ensures.clean clean)

pub returns-in-Err-clause-clean : goal.returns-in-Err-clause-clean
returns-in-Err-clause-clean g c = c.turns.invariant.clean

pub returns-then-is_ended_by-clause-good : goal.returns-then-is_ended_by-clause-good
returns-then-is_ended_by-clause-good g c good is = cc

pub returns-in-Ok-End-clause-good : goal.returns-in-Ok-End-clause-good
returns-in-Ok-End-clause-good g c good is = cc

pub returns-in-Err-answer-clause-good : goal.returns-in-Err-answer-clause-good
returns-in-Err-answer-clause-good g c good is = cc

pub returns-in-Err-flow_on-clause-good : goal.returns-in-Err-flow_on-clause-good
returns-in-Err-flow_on-clause-good g c good is = c.in-Err-flow_on.ensures.good good (cc)

pub returns-in-Err-clause-good : goal.returns-in-Err-clause-good
returns-in-Err-clause-good g c good is = cc
