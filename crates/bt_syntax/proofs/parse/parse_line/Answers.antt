-- What the words come to says these things of the grammar.
use Rattle.console_operand.specs.Word.{words}
use Rattle.bt_syntax.proofs.LineRead.{told_command, told_empty, told_fault, told_only}
use Rattle.bt_syntax.proofs.parse.parse_line.Goals as goal

pub returns-clause-command : goal.returns-clause-command
returns-clause-command c = told_command c.read_words.result (words c.args.line.now) c.read_words.ensures

pub returns-clause-only : goal.returns-clause-only
returns-clause-only c = λ _. told_only c.read_words.result (words c.args.line.now) c.read_words.ensures

pub returns-clause-empty : goal.returns-clause-empty
returns-clause-empty c = told_empty c.read_words.result (words c.args.line.now) c.read_words.ensures

pub returns-clause-fault : goal.returns-clause-fault
returns-clause-fault c = told_fault c.read_words.result (words c.args.line.now) c.read_words.ensures
