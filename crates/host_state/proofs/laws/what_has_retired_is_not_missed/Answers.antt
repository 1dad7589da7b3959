use Rattle.host_state.proofs.ActsKept.{acts_kept}
use Rattle.host_state.proofs.laws.what_has_retired_is_not_missed.Goals as goal

pub returns : goal.returns
returns c = λ maps progs before after change reply acts settled first second. acts_kept maps progs before after first second settled change reply acts
