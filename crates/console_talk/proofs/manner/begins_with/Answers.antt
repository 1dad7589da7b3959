use Rattle.console_operand.specs.Word.{words}
use Rattle.console_talk.proofs.Spoken.{begins_so, begins_not}
use Rattle.console_talk.proofs.manner.begins_with.Goals as goal

pub returns-in-Some : goal.returns-in-Some
returns-in-Some c = begins_so (words c.args.line.now) c.args.word.now _ c.in-Some.ensures

pub returns-in-None : goal.returns-in-None
returns-in-None c = begins_not (words c.args.line.now) c.args.word.now c.in-None.ensures
