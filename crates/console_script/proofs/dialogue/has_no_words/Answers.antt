use Rattle.std.proofs.Common.{arith}
use Rattle.console_script.proofs.StepRuns.{no_words_read}
use Rattle.console_script.proofs.dialogue.has_no_words.Goals as goal

pub returns-in-None : goal.returns-in-None
returns-in-None c _ = no_words_read c.args.line.now (omega (arith, c.if-line-gt-LINE_MAX.false)) c.in-None.ensures.words
