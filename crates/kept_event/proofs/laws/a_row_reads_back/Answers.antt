use Rattle.kept_event.specs.Reading.{code_of}
use Rattle.kept_event.proofs.ReadBack.{back}
use Rattle.kept_event.proofs.laws.a_row_reads_back.Goals as goal

pub returns : goal.returns
returns c event bounded = back event (code_of event) bounded (λ code found. found)
