use Rattle.std.proofs.Common.{List, subst, sym}
use Rattle.thread_frames.specs.Takes.{all_of}
use Rattle.console_script.specs.Supplied.{AreSupplied}
use Rattle.console_script.specs.Transcript.{Step}
use Rattle.thread_host_run.specs.HostRuns.{RunsHost}
use Rattle.thread_host_run.proofs.Ending.{ran, stopped, ended_stops}
use Rattle.thread_host_run.proofs.host_run.run_host.Goals as goal

pub returns-in-Ok-clause-ran : goal.returns-in-Ok-clause-ran
returns-in-Ok-clause-ran g c =
    let supplied : List Step → Type 0 = λ run. AreSupplied g.S.Supply.gives g.K.MapKind.seen c.args.supply.now run c.run_script.new.supply in
    subst (λ r. RunsHost (g.W.Output.contents c.args.out.now) (g.W.Output.contents c.tell_frames.new.out) c.args.book.plain supplied c.args.script.now.files.items c.args.script.now.text.items c.args.frames.now r) (sym c.ended.ensures)
    (ran (g.W.Output.contents c.args.out.now) (g.W.Output.contents c.run_script.new.out) (g.W.Output.contents c.tell_frames.new.out) c.args.book.plain supplied c.args.script.now.files.items c.args.script.now.text.items c.args.frames.now
    c.run_script.new.book.plain c.in-Ok.summary (all_of c.in_ok-frames.frames.1) c.tell_frames.result c.run_script.result c.in_ok-frames.ensures.frames c.in-Ok.is c.run_script.ensures.ran c.tell_frames.ensures.tells)

pub returns-in-Err-clause-ran : goal.returns-in-Err-clause-ran
returns-in-Err-clause-ran g c =
    stopped (g.W.Output.contents c.args.out.now) (g.W.Output.contents c.run_script.new.out) c.args.book.plain
    (λ run. AreSupplied g.S.Supply.gives g.K.MapKind.seen c.args.supply.now run c.run_script.new.supply) c.args.script.now.files.items c.args.script.now.text.items c.args.frames.now c.run_script.new.book.plain
    _ c.run_script.result c.in-Err.is c.run_script.ensures.ran

pub returns-in-Ok-clause-refused : goal.returns-in-Ok-clause-refused
returns-in-Ok-clause-refused g c = λ stops. c.tell_frames.ensures.refused (ended_stops c.in-Ok.summary c.tell_frames.result c.ended.result c.ended.ensures stops)
