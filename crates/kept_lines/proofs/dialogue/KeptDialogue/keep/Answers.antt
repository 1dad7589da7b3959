use Rattle.std.proofs.Common.{None, ◌∷◌, []}
use Rattle.sqlite.specs.Held.{state}
use Rattle.console_script.specs.Frames.{console_of}
use Rattle.console_script.specs.Transcript.{session_of}
use Rattle.kept_lines.proofs.Standing.{begins, stands_one, line_written, all_kept, stops_here, stops_lost}
use Rattle.kept_lines.proofs.dialogue.KeptDialogue.keep.Goals as goal

pub returns-in-Ok-flush-clause-leads : goal.returns-in-Ok-flush-clause-leads
returns-in-Ok-flush-clause-leads g c = λ left.
    let opening = session_of (console_of c.args.book.now.plain c.self.inside.runs) c.self.inside.summary (c.args.line.now ∷ left) None in
    let end = session_of (console_of c.keep_line_or_batch.new.book.plain c.keep_line_or_batch.new.runs) c.in-Ok.tally.summary left None in
    rw (← c.self.view_is)
    (line_written g.S.Supply.gives g.K.MapKind.seen c.args.files.now c.args.supply.now opening (g.W.Output.contents c.args.out.now) (state g.D.Store c.args.conn.now) c.keep_line_or_batch.new.supply end
    c.new-group.result.text.items c.keep_line_or_batch.new.group.text.items (g.W.Output.contents c.flush.new.out) c.new-group.ensures.text (c.in-Ok.ensures.leads left) c.in-Ok-flush.ensures.flushed.written)

pub returns-in-Ok-flush-clause-kept : goal.returns-in-Ok-flush-clause-kept
returns-in-Ok-flush-clause-kept g c =
    let gives = g.S.Supply.gives in
    let seen = g.K.MapKind.seen in
    let files = c.args.files.now in
    let from = c.args.supply.now in
    let opening = session_of (console_of c.args.book.now.plain c.self.inside.runs) c.self.inside.summary (c.args.line.now ∷ []) None in
    let end = session_of (console_of c.keep_line_or_batch.new.book.plain c.keep_line_or_batch.new.runs) c.in-Ok.tally.summary [] None in
    let old = g.W.Output.contents c.args.out.now in
    let start = state g.D.Store c.args.conn.now in
    let events = c.keep_line_or_batch.new.group.events.items in
    let text = c.keep_line_or_batch.new.group.text.items in
    let stands = stands_one gives seen files from opening old start c.keep_line_or_batch.new.supply end c.new-group.result.events.items events c.new-group.result.text.items text
    c.new-group.ensures.events c.new-group.ensures.text (c.in-Ok.ensures.leads []) c.in-Ok.ensures.notes in
    all_kept gives seen files from opening old start old events text c.keep_line_or_batch.new.supply end start stands
    (g.W.Output.contents c.flush.new.out) (state g.D.Store c.flush.new.conn) c.flush.new.group.events.items c.flush.new.group.text.items c.in-Ok-flush.ensures.flushed

pub returns-in-Ok-flush-clause-clean : goal.returns-in-Ok-flush-clause-clean
returns-in-Ok-flush-clause-clean g c = c.in-Ok-flush.ensures.flushed.clean

pub returns-in-Ok-clause-stops : goal.returns-in-Ok-clause-stops
returns-in-Ok-clause-stops g c =
    let opening = session_of (console_of c.args.book.now.plain c.self.inside.runs) c.self.inside.summary (c.args.line.now ∷ []) None in
    let end = session_of (console_of c.keep_line_or_batch.new.book.plain c.keep_line_or_batch.new.runs) c.in-Ok.tally.summary [] None in
    let old = g.W.Output.contents c.args.out.now in
    let start = state g.D.Store c.args.conn.now in
    let events = c.keep_line_or_batch.new.group.events.items in
    let text = c.keep_line_or_batch.new.group.text.items in
    let stands = stands_one g.S.Supply.gives g.K.MapKind.seen c.args.files.now c.args.supply.now opening old start c.keep_line_or_batch.new.supply end c.new-group.result.events.items events
    c.new-group.result.text.items text c.new-group.ensures.events c.new-group.ensures.text (c.in-Ok.ensures.leads []) c.in-Ok.ensures.notes in
    rw (← c.self.view_is)
    (stops_lost g.S.Supply.gives g.K.MapKind.seen c.args.files.now c.args.supply.now opening old start old events text c.keep_line_or_batch.new.supply end start stands
    (g.W.Output.contents c.flush.new.out) (state g.D.Store c.flush.new.conn) c.in-Err-flush.fault c.in-Err-flush.ensures.lost)

pub returns-clause-stops : goal.returns-clause-stops
returns-clause-stops g c =
    let opening = session_of (console_of c.args.book.now.plain c.self.inside.runs) c.self.inside.summary (c.args.line.now ∷ []) None in
    let old = g.W.Output.contents c.args.out.now in
    let start = state g.D.Store c.args.conn.now in
    let events = c.new-group.result.events.items in
    let text = c.new-group.result.text.items in
    rw (← c.self.view_is)
    (stops_here g.S.Supply.gives g.K.MapKind.seen c.args.files.now c.args.supply.now opening old start old events text c.args.supply.now opening start
    (begins g.S.Supply.gives g.K.MapKind.seen c.args.files.now c.args.supply.now opening old start events text c.new-group.ensures.events c.new-group.ensures.text) c.in-Err.fault)

pub returns-in-Ok-flush-clause-times : goal.returns-in-Ok-flush-clause-times
returns-in-Ok-flush-clause-times g c = c.in-Ok-flush.ensures.times
