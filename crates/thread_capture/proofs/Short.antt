-- Frames of which nothing stands against any.
use Rattle.std.proofs.Common.{◌≡◌, ℕ, ◌+◌, ◌<◌, ◌≤◌, cond, List, [], ◌∷◌, length, get_or, refl, ◌∙◌, ap, arith, All, position, option_map, Option, Some, None}
use Rattle.std.proofs.lemmas.Bool.{ltb-true, le-ltb}
use Rattle.std.proofs.lemmas.List.Quantifiers.{position-Some}
use Rattle.thread_frames.specs.Faults.{IsShort, is_long, frames_fault}
use Rattle.thread_frames.specs.declared.fault.FramesFault.TheVariants.{TooMany, FrameTooLong}
use Rattle.thread_frames.specs.declared.frame.FrameIn.{FrameIn}
use Rattle.thread_frames.specs.declared.frame.TheConstants.{MOST_FRAMES, MOST_BYTES}

none_long : (d : FrameIn) (frames : List FrameIn) → All IsShort frames → (at : Option ℕ) → position is_long frames ≡ at → at ≡ None
none_long d frames short None is = refl
none_long d frames short (Some at) is =
    let found = position-Some is_long frames at d is in
    let long : MOST_BYTES < length (get_or frames at d).bytes.items = ltb-true MOST_BYTES (length (get_or frames at d).bytes.items) found.1 in
    absurd (omega (arith, long, short at d found.0))

no_fault_in : (frames : List FrameIn) → length frames ≤ MOST_FRAMES → position is_long frames ≡ None → frames_fault frames ≡ None
no_fault_in frames few none =
    ap (λ b. cond b (Some TooMany) (option_map (λ index. FrameTooLong (index + 1)) (position is_long frames))) (le-ltb MOST_FRAMES (length frames) few)
    ∙ ap (option_map (λ index. FrameTooLong (index + 1))) none

pub no_fault : (frames : List FrameIn) → length frames ≤ MOST_FRAMES → All IsShort frames → frames_fault frames ≡ None
no_fault [] few short = refl
no_fault (frame ∷ frames) few short = no_fault_in (frame ∷ frames) few (none_long frame (frame ∷ frames) short (position is_long (frame ∷ frames)) refl)
