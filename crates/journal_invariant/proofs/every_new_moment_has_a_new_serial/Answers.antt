use Rattle.journal_invariant.proofs.Recording.{events_rise}
use Rattle.journal_invariant.proofs.every_new_moment_has_a_new_serial.Goals as goal

pub returns : goal.returns
returns c = events_rise
