use Rattle.console_text.proofs.Writing.{Writes-then, WritesFront-more}
use Rattle.thread_live.specs.Reports.{ended_text, counts_text}
use Rattle.thread_live.proofs.report.put_frames.Goals as goal

pub returns-in-Ok-clause-text : goal.returns-in-Ok-clause-text
returns-in-Ok-clause-text g c = Writes-then _ _ _ (ended_text c.args.tally) (counts_text c.args.tally) c.put_counts.result c.in-Ok.ensures.text c.put_counts.ensures.text

pub returns-in-Err-clause-text : goal.returns-in-Err-clause-text
returns-in-Err-clause-text g c = WritesFront-more _ _ (ended_text c.args.tally) (counts_text c.args.tally) c.in-Err.ensures.text
