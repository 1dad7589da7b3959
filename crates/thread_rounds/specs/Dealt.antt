-- Which frames the worker of a share comes to, pass after pass.
use Rattle.std.specs.Prelude.{ℕ, ◌+◌, ◌<◌, nat_le, if◌then◌else◌, List, [], ◌∷◌, ◌++◌, Option, IfSome}
use Rattle.thread_rounds.specs.declared.place.Place.{Place}
use Rattle.thread_rounds.specs.declared.share.Share.{Share}

abbrev pub place : ℕ → ℕ → Place
place pass number = record { pass = pass; number = number }

-- before the first frame of the share in the first pass
abbrev pub start : Share → Place
start share = place 0 share.first

-- a stride further on; if so many frames have none there, before the first of the share in the next pass
abbrev pub after : Share → ℕ → Place → Place
after share count at = if nat_le (at.number + share.stride) count then place at.pass (at.number + share.stride) else place (at.pass + 1) share.first

-- The worker of a share came to a position, and served the frames of these numbers on its way. At each one before, in one of
-- the passes that it has to do, it served the frame that was the next there, or left it out
pub data AreDealt (share : Share) (count : ℕ) (passes : Option ℕ) : Place → List ℕ → Type 0 where
  none : AreDealt share count passes (start share) []
  served : (at : Place) (numbers : List ℕ) → IfSome passes (λ n. at.pass < n) → AreDealt share count passes at numbers →
      AreDealt share count passes (after share count at) (numbers ++ at.number ∷ [])
  left_out : (at : Place) (numbers : List ℕ) → IfSome passes (λ n. at.pass < n) → AreDealt share count passes at numbers →
      AreDealt share count passes (after share count at) numbers
