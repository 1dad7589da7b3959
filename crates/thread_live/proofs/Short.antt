-- Frames against which nothing stands are short.
use Rattle.std.proofs.Common.{◌≡◌, ◌≤◌, ℕ, Bool, true, false, cond, List, length, Option, Some, None, All, position, option_map, get_or, refl, ◌+◌, arith}
use Rattle.std.specs.List.{position_or_len}
use Rattle.std.specs.Prelude.{nat_lt}
use Rattle.std.proofs.lemmas.Bool.{ltb-false}
use Rattle.std.proofs.lemmas.Grind.{common_steps}
use Rattle.std.proofs.lemmas.List.Sums.{fails_before_first}
use Rattle.thread_frames.specs.Faults.{IsShort, is_long, frames_fault}
use Rattle.thread_frames.specs.declared.fault.FramesFault.TheVariants.{TooMany, FrameTooLong}
use Rattle.thread_frames.specs.declared.frame.FrameIn.{FrameIn}
use Rattle.thread_frames.specs.declared.frame.TheConstants.{MOST_FRAMES, MOST_BYTES}

-- if none passes a test, each fails it
all_fail : {X : Type 0} (p : X → Bool) (xs : List X) → position p xs ≡ None → All (λ x. p x ≡ false) xs
all_fail p xs none k d below =
    let end : length xs ≤ position_or_len p xs = grind (arith, common_steps) in
    fails_before_first p xs k d (omega (arith, below, end))

none_long : (many : Bool) (at : Option ℕ) → cond many (Some TooMany) (option_map (λ index. FrameTooLong (index + 1)) at) ≡ None → at ≡ None
none_long true at is = cc
none_long false (Some at) is = cc
none_long false None is = refl

pub all_short : (frames : List FrameIn) → frames_fault frames ≡ None → All IsShort frames
all_short frames none k d below =
    ltb-false MOST_BYTES (length (get_or frames k d).bytes.items) (all_fail is_long frames (none_long (nat_lt MOST_FRAMES (length frames)) (position is_long frames) none) k d below)
