-- Numbers that are bytes.
use Rattle.std.specs.Prelude.{◌<◌, ℕ, List, All}

-- each number is below 256
abbrev pub AreBytes : List ℕ → Type 0
AreBytes xs = All (λ byte. byte < 256) xs
