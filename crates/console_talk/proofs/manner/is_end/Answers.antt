use Rattle.console_talk.proofs.Spoken.{holds_first, asks_second}
use Rattle.console_talk.proofs.manner.is_end.Goals as goal

pub returns-then-is_alone : goal.returns-then-is_alone
returns-then-is_alone c = holds_first c.is_alone.result _ _ c.is_alone.ensures c.if-is_alone.true

pub returns : goal.returns
returns c = asks_second c.is_alone.result c.is_alone-2.result _ _ c.is_alone.ensures c.is_alone-2.ensures c.if-is_alone.false
