use Rattle.std.proofs.Common.{Some, None, Ok, Err, refl}
use Rattle.bt_syntax.specs.Steps.{line_read}
use Rattle.bt_syntax.specs.declared.fault.SyntaxFault.TheVariants.{TooLong, At}
use Rattle.thread_asides.specs.declared.turning.Turning.TheVariants.{Nothing}
use Rattle.thread_asides.proofs.TurnsSo.{turns_read}
use Rattle.thread_asides.proofs.turning.Turning.before.Goals as goal

pub returns-in-Ok-Some : goal.returns-in-Ok-Some
returns-in-Ok-Some g c =
    turns_read c.of_command.result (Ok (Some c.in-Ok-Some.command)) (line_read c.args.line.now) c.args.book.now.plain (rw c.in-Ok-Some.field-0-is at c.in-Ok-Some.ensures.exact) c.of_command.ensures

pub returns-in-Ok-None : goal.returns-in-Ok-None
returns-in-Ok-None g c = turns_read Nothing (Ok None) (line_read c.args.line.now) c.args.book.now.plain (rw c.in-Ok-None.field-0-is at c.in-Ok-None.ensures.exact) refl

pub returns-in-Err-TooLong : goal.returns-in-Err-TooLong
returns-in-Err-TooLong g c = turns_read Nothing (Err TooLong) (line_read c.args.line.now) c.args.book.now.plain (rw c.in-Err-TooLong.field-0-is at c.in-Err-TooLong.ensures.exact) refl

pub returns-in-Err-At : goal.returns-in-Err-At
returns-in-Err-At g c = turns_read Nothing (Err (At _)) (line_read c.args.line.now) c.args.book.now.plain (rw c.in-Err-At.field-0-is at c.in-Err-At.ensures.exact) refl
