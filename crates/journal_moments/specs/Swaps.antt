-- What the exchange of a moment does to a world and the records in place.
use Rattle.std.specs.Prelude.{◌≡◌, List}
use Rattle.host_state.specs.World.{WorldView}
use Rattle.host_state.specs.Work.{CallsAtMost}
use Rattle.journal_record.specs.Recorded.{Recorded}
use Rattle.journal_record.specs.After.{state_after}
use Rattle.journal_moments.specs.Calls.{calls_to_swap}
use Rattle.journal_moments.specs.Line.{entries, foot, swapped, Exchanged}
use Rattle.journal_moments.specs.MomentView.{MomentView}

-- other records are in place, the state is what they make of the base, and the moment is the exchange that leads back
pub record Exchanges (old : WorldView) (rs : List Recorded) (m : MomentView) (new : WorldView) (after : List Recorded) (n : MomentView) : Type 0 where
  pub state : new.state ≡ state_after (foot old.state rs) (entries after)
  pub ready : new.ready ≡ old.ready
  pub records : after ≡ swapped (foot old.state rs) rs m
  pub moment : Exchanged (foot old.state rs) rs m n
  pub work : CallsAtMost (calls_to_swap rs m) old.work new.work
