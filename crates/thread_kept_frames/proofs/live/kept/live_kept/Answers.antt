use Rattle.sqlite.specs.Held.{state}
use Rattle.console_script.proofs.Supplied.{all_get_new}
use Rattle.kept_lines.specs.declared.fault.LinesFault.TheVariants.{Write}
use Rattle.kept_host.specs.declared.fault.Broken.TheVariants as broken
use Rattle.thread_kept_frames.specs.declared.live.fault.LiveFault.TheVariants.{Line}
use Rattle.thread_kept_frames.proofs.Hosting.{not_begun, script_stops}
use Rattle.thread_kept_frames.proofs.LiveHosting.{lived_kept, live_stopped, live_unasked}
use Rattle.thread_kept_frames.proofs.live.kept.live_kept.Goals as goal

-- ---- the setup did not come to its end
pub returns-in-Err-clause-lives : goal.returns-in-Err-clause-lives
returns-in-Err-clause-lives g c =
    not_begun c.args.terms c.args.setup.now.files.items c.args.setup.now.text.items c.args.flow.now.frames.items (state g.D.Store c.args.conn.now) (g.W.Output.contents c.args.out.now) (state g.D.Store c.begin.new.conn) c.in-Err.fault c.in-Err.ensures.begins

pub returns-in-Err-ran-clause-lives : goal.returns-in-Err-ran-clause-lives
returns-in-Err-ran-clause-lives g c = rw c.stopped.ensures
    (script_stops c.args.terms c.args.setup.now.files.items c.args.setup.now.text.items c.args.flow.now.frames.items (state g.D.Store c.args.conn.now) (g.W.Output.contents c.args.out.now) (state g.D.Store c.begin.new.conn) c.in-Ok.book c.in-Ok.ensures.begins
    (state g.D.Store c.keep_lines-ran.new.conn) (g.W.Output.contents c.keep_lines-ran.new.out) c.keep_lines-ran.ensures.clean c.in-Err-ran.fault c.in-Err-ran.ensures.stops)

-- ---- what it answered has not left the output
pub returns-in-Err-flush_all-clause-lives : goal.returns-in-Err-flush_all-clause-lives
returns-in-Err-flush_all-clause-lives g c = rw c.unwritten.ensures
    (live_unasked c.args.terms c.args.setup.now.files.items c.args.setup.now.text.items c.args.flow.now.frames.items c.args.flow.now.passes (g.R.FileReader.may_read c.args.rt.now) (g.L.Lines.remaining c.args.lines.now)
    (state g.D.Store c.args.conn.now) (g.W.Output.contents c.args.out.now) (state g.D.Store c.begin.new.conn) c.in-Ok.book c.in-Ok.ensures.begins _ (λ run. all_get_new _ _ (λ from attr told to it. it) _ _ run)
    (state g.D.Store c.keep_lines-ran.new.conn) (g.W.Output.contents c.keep_lines-ran.new.out) (g.W.Output.contents c.flush_all.new.self) c.keep_lines-ran.new.book.plain c.in-Ok-ran.counts c.keep_lines-ran.ensures.clean
    c.in-Ok-ran.ensures.kept c.in-Ok-ran.ensures.ran c.flush_all.ensures.bytes (Line (broken.Lines Write)))

-- ---- lines were answered
pub returns-in-Ok-keep_live-clause-lives : goal.returns-in-Ok-keep_live-clause-lives
returns-in-Ok-keep_live-clause-lives g c =
    lived_kept c.args.terms c.args.setup.now.files.items c.args.setup.now.text.items c.args.flow.now.frames.items c.args.flow.now.passes (g.R.FileReader.may_read c.args.rt.now) (g.L.Lines.remaining c.args.lines.now)
    (state g.D.Store c.args.conn.now) (g.W.Output.contents c.args.out.now) (state g.D.Store c.begin.new.conn) c.in-Ok.book c.in-Ok.ensures.begins _ (λ run. all_get_new _ _ (λ from attr told to it. it) _ _ run)
    (state g.D.Store c.keep_lines-ran.new.conn) (g.W.Output.contents c.keep_lines-ran.new.out) (g.W.Output.contents c.flush_all.new.self) c.keep_lines-ran.new.book.plain c.in-Ok-ran.counts c.keep_lines-ran.ensures.clean
    c.in-Ok-ran.ensures.kept c.in-Ok-ran.ensures.ran c.flush_all.ensures.bytes (state g.D.Store c.keep_live.new.conn) (g.W.Output.contents c.keep_live.new.out) c.keep_live.ensures.clean
    _ (λ from run to it. all_get_new _ _ (λ from attr told to it. it) from to run it) _ _ c.in-Ok-keep_live.lived.book.plain c.in-Ok-keep_live.lived.summary c.in-Ok-keep_live.lived.course c.ended.result c.in-Ok-keep_live.ensures.lived
    c.ended.ensures.course c.in-Ok-keep_live.ensures.kept c.ended.ensures.summary c.ended.ensures.moments

pub returns-in-Err-keep_live-clause-lives : goal.returns-in-Err-keep_live-clause-lives
returns-in-Err-keep_live-clause-lives g c =
    live_stopped c.args.terms c.args.setup.now.files.items c.args.setup.now.text.items c.args.flow.now.frames.items c.args.flow.now.passes (g.R.FileReader.may_read c.args.rt.now) (g.L.Lines.remaining c.args.lines.now)
    (state g.D.Store c.args.conn.now) (g.W.Output.contents c.args.out.now) (state g.D.Store c.begin.new.conn) c.in-Ok.book c.in-Ok.ensures.begins _ (λ run. all_get_new _ _ (λ from attr told to it. it) _ _ run)
    (state g.D.Store c.keep_lines-ran.new.conn) (g.W.Output.contents c.keep_lines-ran.new.out) (g.W.Output.contents c.flush_all.new.self) c.keep_lines-ran.new.book.plain c.in-Ok-ran.counts c.keep_lines-ran.ensures.clean
    c.in-Ok-ran.ensures.kept c.in-Ok-ran.ensures.ran c.flush_all.ensures.bytes (state g.D.Store c.keep_live.new.conn) (g.W.Output.contents c.keep_live.new.out) c.keep_live.ensures.clean
    _ (λ from run to it. all_get_new _ _ (λ from attr told to it. it) from to run it) _ c.in-Err-keep_live.fault c.in-Err-keep_live.ensures.left

-- ---- good frames
pub returns-in-Err-clause-good : goal.returns-in-Err-clause-good
returns-in-Err-clause-good g c good is = cc

pub returns-in-Err-ran-clause-good : goal.returns-in-Err-ran-clause-good
returns-in-Err-ran-clause-good g c good is = cc

pub returns-in-Err-flush_all-clause-good : goal.returns-in-Err-flush_all-clause-good
returns-in-Err-flush_all-clause-good g c good is = cc

pub returns-in-Ok-keep_live-clause-good : goal.returns-in-Ok-keep_live-clause-good
returns-in-Ok-keep_live-clause-good g c good is = cc

pub returns-in-Err-keep_live-clause-good : goal.returns-in-Err-keep_live-clause-good
returns-in-Err-keep_live-clause-good g c good is = c.in-Err-keep_live.ensures.good good (cc)
