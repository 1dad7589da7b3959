-- Frames of which nothing stands against any.
use Rattle.std.proofs.Common.{◌≡◌, ℕ, ◌+◌, ◌<◌, ◌≤◌, true, false, cond, List, [], ◌∷◌, length, refl, ◌∙◌, ap, arith, Some, None, get_or}
use Rattle.std.specs.Prelude.{nat_lt, option_map}
use Rattle.std.specs.List.{All, position, position_or_len}
use Rattle.std.proofs.lemmas.Bool.{ltb-true, le-ltb}
use Rattle.std.proofs.lemmas.List.Sums.{passes_at_first}
use Rattle.thread_frames.specs.Faults.{IsShort, is_long, frames_fault}
use Rattle.thread_frames.specs.declared.fault.FramesFault.TheVariants.{TooMany, FrameTooLong}
use Rattle.thread_frames.specs.declared.frame.FrameIn.{FrameIn}
use Rattle.thread_frames.specs.declared.frame.TheConstants.{MOST_FRAMES, MOST_BYTES}

none_long : (d : FrameIn) (frames : List FrameIn) → All IsShort frames → position is_long frames ≡ None
none_long d frames short =
    let at : ℕ = position_or_len is_long frames in
    elim (nat_lt at (length frames)) as (λ b. nat_lt at (length frames) ≡ b → cond b (Some at) None ≡ None) [
      | true ↦ λ is.
          let below : at < length frames = ltb-true at (length frames) is in
          let long : is_long (get_or frames at d) ≡ true = passes_at_first is_long frames d below in
          let above : MOST_BYTES < length (get_or frames at d).bytes.items = ltb-true MOST_BYTES (length (get_or frames at d).bytes.items) long in
          absurd (omega (arith, above, short at d below))
      | false ↦ λ is. refl
    ] refl

no_fault_in : (frames : List FrameIn) → length frames ≤ MOST_FRAMES → position is_long frames ≡ None → frames_fault frames ≡ None
no_fault_in frames few none =
    ap (λ b. cond b (Some TooMany) (option_map (λ index. FrameTooLong (index + 1)) (position is_long frames))) (le-ltb MOST_FRAMES (length frames) few)
    ∙ ap (option_map (λ index. FrameTooLong (index + 1))) none

pub no_fault : (frames : List FrameIn) → length frames ≤ MOST_FRAMES → All IsShort frames → frames_fault frames ≡ None
no_fault [] few short = refl
no_fault (frame ∷ frames) few short = no_fault_in (frame ∷ frames) few (none_long frame (frame ∷ frames) short)
