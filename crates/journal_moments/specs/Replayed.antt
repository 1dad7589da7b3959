-- The law that each moment keeps.
use Rattle.std.specs.Prelude.{◌≡◌, List, [], ◌∷◌, Ok}
use Rattle.host_state.specs.State.{State}
use Rattle.journal_model.specs.Plain.{Past}
use Rattle.journal_model.specs.Replay.{replay}

-- each moment's state is what its list in force makes of the base
abbrev pub AllReplayed : State → List Past → Type 0
AllReplayed base [] = Unit {0}
AllReplayed base (m ∷ ms) = (replay base m.force ≡ Ok m.state) × AllReplayed base ms
