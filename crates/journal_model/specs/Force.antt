-- The list of changes in force: whether one is among them, and the others.
use Rattle.std.specs.Prelude.{ℕ, Bool, not, ◌==◌, List, filter}
use Rattle.std.specs.List.{list_any}
use Rattle.journal_model.specs.Replay.{Entry}

-- whether one of these changes has the serial
abbrev pub is_in_force : ℕ → List Entry → Bool
is_in_force serial force = list_any (λ (e : Entry). e.serial == serial) force

-- the others
abbrev pub without : ℕ → List Entry → List Entry
without serial force = filter (λ (e : Entry). not (e.serial == serial)) force
