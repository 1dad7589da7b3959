-- How many calls of boxes it takes to take one change out of a timeline.
use Rattle.std.specs.Prelude.{◌≡◌, ℕ, ◌+◌, List, [], ◌∷◌, Result, Ok, Err}
use Rattle.host_state.specs.State.{State}
use Rattle.host_state.specs.Work.{CallsAtMost}
use Rattle.journal_model.specs.Replay.{Entry}
use Rattle.journal_moments.specs.Calls.{Costs}
use Rattle.journal_timeline.specs.Staged.{Staged}
use Rattle.journal_timeline.specs.declared.stage.AgainFault.{AgainFault}

-- one call at most turns a change back, and one puts it in place again
pub record CallsToTurn (old new : Staged) : Type 0 where
  pub made : CallsAtMost 1 old.line.work new.line.work
  pub to_restore : new.to_restore ≡ old.to_restore + 1

-- the next of these is done again in a state, for what it costs to record it
abbrev pub CostsNext : State → List Entry → Result (Unit {0}) AgainFault → ℕ → ℕ → Type 0
CostsNext s [] result old new = new ≡ old
CostsNext s (e ∷ es) result old new = Costs s e.change result old new

-- what was done again takes one call to be turned back
abbrev pub to_restore_after : Result (Unit {0}) AgainFault → ℕ → ℕ
to_restore_after (Ok done) calls = calls + 1
to_restore_after (Err fault) calls = calls

pub record CallsToGoOn (old : Staged) (result : Result (Unit {0}) AgainFault) (new : Staged) : Type 0 where
  pub made : CostsNext old.state old.left result old.line.work new.line.work
  pub to_restore : new.to_restore ≡ to_restore_after result old.to_restore
