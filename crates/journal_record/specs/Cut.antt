-- A list cut in three.
use Rattle.std.specs.Prelude.{ℕ, ◌-◌, List, length, take, drop}

-- the last so many of a list, and those between them and the first so many
abbrev pub behind : {X : Type 0} → ℕ → List X → List X
behind stays xs = drop (length xs - stays) xs

abbrev pub between : {X : Type 0} → ℕ → ℕ → List X → List X
between at stays xs = take ((length xs - stays) - at) (drop at xs)
