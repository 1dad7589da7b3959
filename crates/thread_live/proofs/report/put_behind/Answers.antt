use Rattle.console_text.proofs.Writing.{Writes-then, WritesFront-more}
use Rattle.thread_live.specs.Reports.{frames_text, rest_text}
use Rattle.thread_live.proofs.report.put_behind.Goals as goal

pub returns-in-Ok-clause-text : goal.returns-in-Ok-clause-text
returns-in-Ok-clause-text g c = Writes-then _ _ _ (frames_text c.args.report.now.tally) (rest_text c.args.report.now) c.put_rest.result c.in-Ok.ensures.text c.put_rest.ensures.text

pub returns-in-Err-clause-text : goal.returns-in-Err-clause-text
returns-in-Err-clause-text g c = WritesFront-more _ _ (frames_text c.args.report.now.tally) (rest_text c.args.report.now) c.in-Err.ensures.text
