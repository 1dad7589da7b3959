-- What the words come to says these things of the grammars.
use Rattle.console_operand.specs.Word.{words}
use Rattle.console_live_words.proofs.LiveRead.{told_command, told_only, told_console, told_fault}
use Rattle.console_live_words.proofs.parse.parse_live_line.Goals as goal

pub returns-clause-command : goal.returns-clause-command
returns-clause-command c = told_command c.read_words.result (words c.args.line.now) c.read_words.ensures

pub returns-clause-only : goal.returns-clause-only
returns-clause-only c = λ _. told_only c.read_words.result (words c.args.line.now) c.read_words.ensures

pub returns-clause-console : goal.returns-clause-console
returns-clause-console c = told_console c.read_words.result (words c.args.line.now) c.read_words.ensures

pub returns-clause-fault : goal.returns-clause-fault
returns-clause-fault c = told_fault c.read_words.result (words c.args.line.now) c.read_words.ensures
