use Rattle.console_text.proofs.Writing.{Writes-then, WritesFront-more}
use Rattle.thread_host_run.specs.FrameTexts.{naming_text, end_text}
use Rattle.thread_host_run.proofs.text.put_frame.Goals as goal

pub returns-in-Ok-clause-text : goal.returns-in-Ok-clause-text
returns-in-Ok-clause-text g c = Writes-then _ _ _ (naming_text c.args.ended.now.number) (end_text c.args.ended.now.end) c.put_frame_end.result c.in-Ok.ensures.text c.put_frame_end.ensures.text

pub returns-in-Err-clause-text : goal.returns-in-Err-clause-text
returns-in-Err-clause-text g c = WritesFront-more _ _ (naming_text c.args.ended.now.number) (end_text c.args.ended.now.end) c.in-Err.ensures.text
