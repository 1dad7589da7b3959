use Rattle.std.proofs.Common.{inr}
use Rattle.bt_desk.proofs.Visiting.{if_ok}
use Rattle.thread_live.proofs.trying.answer_confirm.Goals as goal

pub returns-else-confirm-clause-confirms : goal.returns-else-confirm-clause-confirms
returns-else-confirm-clause-confirms g c = if_ok _ _ c.say_refused.result (λ tally it. inr it) c.say_refused.ensures.says
