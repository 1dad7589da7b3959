use Rattle.std.proofs.Common.{Err, ap}
use Rattle.thread_frames.specs.Takes.{all_of}
use Rattle.console_script.proofs.Supplied.{all_get_new}
use Rattle.thread_host_run.proofs.OnHost.{ran_so, told_kept}
use Rattle.bpfcon.proofs.Ending.{of_frames, of_serving}
use Rattle.bpfcon.proofs.host_run.serve_script.Goals as goal

pub returns-in-Ok-tell_frames-clause-ran : goal.returns-in-Ok-tell_frames-clause-ran
returns-in-Ok-tell_frames-clause-ran g c = record {
  book = c.in-Ok-new_book.book.plain;
  opens = c.in-Ok-new_book.ensures.opens;
  left = c.run_lines.new.book.plain;
  between = g.W.Output.contents c.run_lines.new.out;
  ran = ran_so _ _ _ _ _ _ _ (λ run. all_get_new _ _ (λ from attr told to it. it) _ _ run) c.in-Ok-run_lines.ensures.ran;
  all = all_of c.in-Ok.served.1;
  in_file = c.in-Ok.ensures.frames;
  ends = c.in-Ok-serve_frames.served.1.items;
  told = told_kept _ _ _ _ _ _ _ c.in-Ok-serve_frames.ensures.served c.tell_frames.ensures.written;
}

pub returns-in-Err-clause-only : goal.returns-in-Err-clause-only
returns-in-Err-clause-only g c = of_frames _ c.args.frames.now c.in-Err.fault c.of_serving.result c.of_serving.ensures c.in-Err.ensures.only

pub returns-in-Err-serve_frames-clause-only : goal.returns-in-Err-serve_frames-clause-only
returns-in-Err-serve_frames-clause-only g c =
    of_serving _ c.args.frames.now c.in-Err-serve_frames.fault c.of_serving-in-Err-serve_frames.result c.of_serving-in-Err-serve_frames.ensures (λ is. c.in-Err-serve_frames.ensures.refused (ap Err is))
