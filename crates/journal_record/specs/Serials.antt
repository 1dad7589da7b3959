-- Changes in force by their serials.
use Rattle.std.specs.Prelude.{ℕ, ◌<◌, ◌==◌, List, find, Option}
use Rattle.std.specs.Option.{option_map}
use Rattle.host_state.specs.declared.change.Change.{Change}
use Rattle.journal_model.specs.Replay.{Entry}
use Rattle.journal_model.specs.Well.{EachPair}

-- they stand in the order of their serials
abbrev pub SerialsRise : List Entry → Type 0
SerialsRise force = EachPair (λ (earlier later : Entry). earlier.serial < later.serial) force

-- the change of a serial among them, if one has it
abbrev pub change_in : ℕ → List Entry → Option Change
change_in serial force = option_map (λ (e : Entry). e.change) (find (λ (e : Entry). e.serial == serial) force)
