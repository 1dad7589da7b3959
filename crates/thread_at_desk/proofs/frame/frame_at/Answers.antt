use Rattle.bt_desk.proofs.Visiting.{if_ok}
use Rattle.thread_at_desk.proofs.frame.frame_at.Goals as goal

pub returns-in-Ok-clause-ran : goal.returns-in-Ok-clause-ran
returns-in-Ok-clause-ran g c =
    if_ok _ _ c.go_on.result (λ answer it. record { begun = c.in-Ok.begun; mid = c.begin_at.new.seat; begins = c.in-Ok.ensures.began; goes = it }) c.go_on.ensures.goes
