use Rattle.thread_live.proofs.workers.end_traffic.Goals as goal

pub returns-in-Ok-tell-clause-ended : goal.returns-in-Ok-tell-clause-ended
returns-in-Ok-tell-clause-ended g c = record {
  mid = c.end_try.new.seat;
  gives_back = c.end_try.ensures.kept;
  tells = record {
    report = c.in-Ok.report;
    workers = c.in-Ok.ensures.tells.0;
    most_moments = c.in-Ok.ensures.tells.1;
    counted = c.in-Ok.ensures.tells.2;
    wrote = c.in-Ok-tell.ensures.tells.1;
  };
  stopped = c.in-Ok.ensures.stopped.0;
  no_rate = c.in-Ok.ensures.stopped.1;
}
