use Rattle.bt_syntax.specs.Steps.{line_read}
use Rattle.thread_asides.proofs.TurnsSo.{if_taken}
use Rattle.thread_asides.proofs.turning.serial_out.Goals as goal

pub returns-in-Ok-Some : goal.returns-in-Ok-Some
returns-in-Ok-Some c = if_taken c.in-Ok-Some.command (line_read c.args.line.now) c.taken_by.result (rw c.in-Ok-Some.field-0-is at c.in-Ok-Some.ensures.exact) c.taken_by.ensures
