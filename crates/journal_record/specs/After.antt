-- The state after changes, whatever they answer.
use Rattle.std.specs.Prelude.{List, [], ◌∷◌, Ok, Err}
use Rattle.host_state.specs.State.{State}
use Rattle.host_state.specs.Act.{Outcome, act}
use Rattle.journal_model.specs.Replay.{Entry}

-- the state that an outcome leaves; the state before if the change is refused
abbrev pub state_or : State → Outcome → State
state_or s (Ok done) = done.0
state_or s (Err errno) = s

abbrev pub after : State → Entry → State
after s e = state_or s (act s e.change)

-- the state after entries, the oldest first
abbrev pub state_after : State → List Entry → State
state_after s [] = s
state_after s (e ∷ es) = state_after (after s e) es
