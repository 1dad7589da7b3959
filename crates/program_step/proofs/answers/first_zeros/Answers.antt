use Rattle.std.proofs.lemmas.List.{take-replicate}
use Rattle.program_step.proofs.answers.first_zeros.Goals as goal

pub returns : goal.returns
returns c = rw c.requires.zero (take-replicate c.args.count 260 0 c.requires.count)
