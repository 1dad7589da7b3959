use Rattle.bpfcon.proofs.Living.{if_ok, beside_one_that_ended}
use Rattle.bpfcon.proofs.live.go_live.Goals as goal

pub returns-in-Ok-told-clause-ran : goal.returns-in-Ok-told-clause-ran
returns-in-Ok-told-clause-ran g c =
    if_ok _ c.in-Ok-told.left.ran (λ summary is. record {
      input = _;
      between = g.W.Output.contents c.flush_all.new.self;
      flushed = c.flush_all.ensures.bytes;
      desk = c.in-Ok-open.opened.0;
      opens = c.in-Ok-open.ensures.opening;
      first = c.in-Ok-open.opened.1;
      has_seen_nothing = c.in-Ok-open.ensures.new.0;
      last = c.serve_beside-seat.result.0;
      beside = beside_one_that_ended _ _ c.in-Ok-told.left (λ left. left.ran) _ _ summary _ _ is (rw (c.in-Ok-told.is, c.in-Ok-new-2.ensures.ok) at c.serve_beside-seat.ensures.served);
      left = c.close.result.plain;
      closes = c.close.ensures;
    })

pub returns-in-Ok-told-clause-only : goal.returns-in-Ok-told-clause-only
returns-in-Ok-told-clause-only g c = (rw c.in-Ok-told.is at c.serve_beside-seat.ensures.served).did.talks.1
