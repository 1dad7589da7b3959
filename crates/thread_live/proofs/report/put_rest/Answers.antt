use Rattle.console_text.proofs.Writing.{Writes-then, WritesFront-more}
use Rattle.thread_live.specs.Reports.{moments_text, rate_text}
use Rattle.thread_live.proofs.report.put_rest.Goals as goal

pub returns-in-Ok-clause-text : goal.returns-in-Ok-clause-text
returns-in-Ok-clause-text g c = Writes-then _ _ _ (moments_text c.args.report.now.moments c.args.report.now.most_moments) (rate_text c.args.report.now.rate) c.put_rate.result c.in-Ok.ensures.text c.put_rate.ensures.text

pub returns-in-Err-clause-text : goal.returns-in-Err-clause-text
returns-in-Err-clause-text g c = WritesFront-more _ _ (moments_text c.args.report.now.moments c.args.report.now.most_moments) (rate_text c.args.report.now.rate) c.in-Err.ensures.text
