use Rattle.std.specs.List.{flat_map}
use Rattle.console_text.proofs.Writing.{Writes-then, WritesFront-more}
use Rattle.thread_host_run.specs.FrameTexts.{frame_text, moments_text}
use Rattle.thread_host_run.proofs.text.put_ends.Goals as goal

pub returns-in-Ok-clause-text : goal.returns-in-Ok-clause-text
returns-in-Ok-clause-text g c = Writes-then _ _ _ (flat_map frame_text c.args.ends.now) (moments_text c.args.moments) c.put_moments.result c.in-Ok.ensures.text c.put_moments.ensures.text

pub returns-in-Err-clause-text : goal.returns-in-Err-clause-text
returns-in-Err-clause-text g c = WritesFront-more _ _ (flat_map frame_text c.args.ends.now) (moments_text c.args.moments) c.in-Err.ensures.text
