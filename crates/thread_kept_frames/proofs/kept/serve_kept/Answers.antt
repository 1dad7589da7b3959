use Rattle.sqlite.specs.Held.{state}
use Rattle.console_script.proofs.Supplied.{all_get_new}
use Rattle.thread_kept_frames.proofs.Hosting.{not_begun, script_stops, frames_served, frames_stop}
use Rattle.kept_lines.proofs.Added.{added_then, added_to}
use Rattle.thread_kept_frames.proofs.kept.serve_kept.Goals as goal

pub returns-in-Err-clause-serves : goal.returns-in-Err-clause-serves
returns-in-Err-clause-serves g c =
    not_begun c.args.terms c.args.script.now.files.items c.args.script.now.text.items c.args.frames.items (state g.D.Store c.args.conn.now) (g.W.Output.contents c.args.out.now) (state g.D.Store c.begin.new.conn) c.in-Err.fault c.in-Err.ensures.begins

pub returns-in-Err-ran-clause-serves : goal.returns-in-Err-ran-clause-serves
returns-in-Err-ran-clause-serves g c =
    script_stops c.args.terms c.args.script.now.files.items c.args.script.now.text.items c.args.frames.items (state g.D.Store c.args.conn.now) (g.W.Output.contents c.args.out.now) (state g.D.Store c.begin.new.conn) c.in-Ok.book c.in-Ok.ensures.begins
    (state g.D.Store c.keep_lines-ran.new.conn) (g.W.Output.contents c.keep_lines-ran.new.out) c.keep_lines-ran.ensures.clean c.in-Err-ran.fault c.in-Err-ran.ensures.stops

pub returns-in-Ok-keep_frames-clause-serves : goal.returns-in-Ok-keep_frames-clause-serves
returns-in-Ok-keep_frames-clause-serves g c =
    frames_served c.args.terms c.args.script.now.files.items c.args.script.now.text.items c.args.frames.items (state g.D.Store c.args.conn.now) (g.W.Output.contents c.args.out.now) (state g.D.Store c.begin.new.conn) c.in-Ok.book c.in-Ok.ensures.begins
    (state g.D.Store c.keep_lines-ran.new.conn) (g.W.Output.contents c.keep_lines-ran.new.out) c.keep_lines-ran.new.book.plain _ (λ run. all_get_new _ _ (λ from attr told to it. it) _ _ run) c.keep_lines-ran.ensures.clean c.in-Ok-ran.ensures.kept
    (state g.D.Store c.keep_frames.new.conn) (g.W.Output.contents c.keep_frames.new.out) c.in-Ok-keep_frames.book.plain _ c.keep_frames.ensures.clean c.in-Ok-ran.ensures.ran
    c.in-Ok-keep_frames.ensures.served c.moments-moments.ensures c.in-Ok-keep_frames.ensures.kept

pub returns-in-Err-keep_frames-clause-serves : goal.returns-in-Err-keep_frames-clause-serves
returns-in-Err-keep_frames-clause-serves g c =
    frames_stop c.args.terms c.args.script.now.files.items c.args.script.now.text.items c.args.frames.items (state g.D.Store c.args.conn.now) (g.W.Output.contents c.args.out.now) (state g.D.Store c.begin.new.conn) c.in-Ok.book c.in-Ok.ensures.begins
    (state g.D.Store c.keep_lines-ran.new.conn) (g.W.Output.contents c.keep_lines-ran.new.out) c.keep_lines-ran.new.book.plain _ (λ run. all_get_new _ _ (λ from attr told to it. it) _ _ run) c.keep_lines-ran.ensures.clean c.in-Ok-ran.ensures.kept
    (state g.D.Store c.keep_frames.new.conn) (g.W.Output.contents c.keep_frames.new.out) c.in-Ok-ran.summary c.in-Err-keep_frames.fault c.keep_frames.ensures.clean c.in-Ok-ran.ensures.ran c.in-Err-keep_frames.ensures.stops

pub returns-in-Ok-keep_frames-clause-times : goal.returns-in-Ok-keep_frames-clause-times
returns-in-Ok-keep_frames-clause-times g c =
    let begun = state g.D.Store c.begin.new.conn in
    let ran = state g.D.Store c.keep_lines-ran.new.conn in
    let new = state g.D.Store c.keep_frames.new.conn in
    added_to c.args.terms c.args.time (state g.D.Store c.args.conn.now) begun new (λ clean. c.keep_lines-ran.ensures.clean (c.keep_frames.ensures.clean clean)) c.in-Ok.ensures.entries
    (added_then c.args.time begun ran new c.keep_frames.ensures.clean c.in-Ok-ran.ensures.times c.in-Ok-keep_frames.ensures.times)
