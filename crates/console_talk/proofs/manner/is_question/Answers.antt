use Rattle.console_talk.proofs.Spoken.{holds_first, asks_second}
use Rattle.console_talk.proofs.manner.is_question.Goals as goal

pub returns-then-begins_with : goal.returns-then-begins_with
returns-then-begins_with c = holds_first c.begins_with.result _ _ c.begins_with.ensures c.if-begins_with.true

pub returns : goal.returns
returns c = asks_second c.begins_with.result c.begins_with-2.result _ _ c.begins_with.ensures c.begins_with-2.ensures c.if-begins_with.false
