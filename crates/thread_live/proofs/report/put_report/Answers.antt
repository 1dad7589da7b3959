use Rattle.console_text.proofs.Writing.{Writes-then, WritesFront-more}
use Rattle.thread_live.specs.Reports.{standing_text, behind_text}
use Rattle.thread_live.proofs.report.put_report.Goals as goal

pub returns-in-Ok-clause-text : goal.returns-in-Ok-clause-text
returns-in-Ok-clause-text g c = Writes-then _ _ _ (standing_text c.args.report.now.workers c.args.report.now.state) (behind_text c.args.report.now) c.put_behind.result c.in-Ok.ensures.text c.put_behind.ensures.text

pub returns-in-Err-clause-text : goal.returns-in-Err-clause-text
returns-in-Err-clause-text g c = WritesFront-more _ _ (standing_text c.args.report.now.workers c.args.report.now.state) (behind_text c.args.report.now) c.in-Err.ensures.text
