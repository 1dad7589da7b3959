use Rattle.bpfcon.proofs.Living.{if_ok}
use Rattle.bpfcon.proofs.live.serve_live.Goals as goal

pub returns-in-Ok-clause-ran : goal.returns-in-Ok-clause-ran
returns-in-Ok-clause-ran g c =
    if_ok _ c.go_live.result.1 (λ summary is. record {
      between = g.W.Output.contents c.begin_live.new.out;
      left = c.in-Ok.begun.book.plain;
      traffic = c.in-Ok.begun.traffic;
      counts = c.in-Ok.begun.operator.summary;
      began = c.in-Ok.ensures.began;
      session = c.in-Ok.begun.operator.session;
      no_open_runs = c.in-Ok.ensures.operator.0;
      lives = rw (is, c.in-Ok.ensures.operator.1) at c.go_live.ensures.ran;
    })
