use Rattle.std.proofs.Common.{arith}
use Rattle.console_operand.specs.Word.{words}
use Rattle.console_hint.proofs.Behind.{none_behind, one_more_behind}
use Rattle.console_hint.proofs.word.behind.Goals as goal

pub returns-in-None-clause-words : goal.returns-in-None-clause-words
returns-in-None-clause-words c =
    none_behind c.loop.counter c.args.count (words c.args.line.now) (words c.loop.rest.now) c.loop.invariant.0 c.in-None.ensures.words (omega arith)

pub loop-preserved : goal.loop-preserved
loop-preserved c = (
  one_more_behind c.loop.counter (words c.args.line.now) (words c.loop.rest.now) (words c.in-Some.after.now) c.in-Some.field-0-0.now c.loop.invariant.0 c.in-Some.ensures.words,
  omega (arith, c.in-Some.ensures.shorter, c.loop.invariant.1),
)
