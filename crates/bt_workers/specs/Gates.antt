-- What the gates of workers are told.
use Rattle.std.specs.Prelude.{◌≡◌, ℕ, Option, Some, None, List, [], ◌∷◌, map}
use Rattle.std.specs.List.{range_with_len}
use Rattle.bt_workers.specs.declared.result.FrameEnd.{FrameEnd}
use Rattle.bt_workers.specs.declared.result.FrameEnd.TheVariants.{SeatSpent}

-- a frame comes to its call of this number, or it has ended; first stands the frame's number
pub data Notice : Type 0 where
  Pass : ℕ → ℕ → Notice
  Answered : ℕ → Notice

-- a frame comes to so many calls, from this one on
abbrev pub passes : ℕ → ℕ → ℕ → List Notice
passes frame nth count = map (λ n. Pass frame n) (range_with_len nth count)

-- a frame that finds its seat without calls has come to one call more than it made
abbrev pub unmade : FrameEnd → ℕ
unmade SeatSpent = 1
unmade _ = 0

-- a step of a run comes to a call, unless the run ends without it
abbrev pub tried : Option FrameEnd → ℕ
tried None = 1
tried (Some end) = unmade end

module _ {G : Type 0} (told : G → Notice → G → Type 0) where
  -- a gate was told these, one after another
  abbrev pub AreTold : G → List Notice → G → Type 0
  AreTold gate [] after = after ≡ gate
  AreTold gate (notice ∷ more) after = (next : G) × told gate notice next × AreTold next more after
