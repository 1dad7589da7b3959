use Rattle.console_script.proofs.LineByLine.{is_by_lines}
use Rattle.console_script.proofs.laws.a_transcript_is_its_lines_texts.Goals as goal

pub returns : goal.returns
returns c = is_by_lines
