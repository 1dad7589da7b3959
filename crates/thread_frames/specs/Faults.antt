-- What stands against a list of frames.
use Rattle.std.specs.Prelude.{◌+◌, ◌≤◌, nat_lt, if◌then◌else◌, Bool, List, length, position, option_map, Option, Some}
use Rattle.thread_frames.specs.declared.fault.FramesFault.{FramesFault}
use Rattle.thread_frames.specs.declared.fault.FramesFault.TheVariants.{TooMany, FrameTooLong}
use Rattle.thread_frames.specs.declared.frame.FrameIn.{FrameIn}
use Rattle.thread_frames.specs.declared.frame.TheConstants.{MOST_FRAMES, MOST_BYTES}

abbrev pub IsShort : FrameIn → Type 0
IsShort frame = length frame.bytes.items ≤ MOST_BYTES

abbrev pub is_long : FrameIn → Bool
is_long frame = nat_lt MOST_BYTES (length frame.bytes.items)

-- there are too many, or one is too long: the first, by its number from 1
abbrev pub frames_fault : List FrameIn → Option FramesFault
frames_fault frames =
    if nat_lt MOST_FRAMES (length frames) then Some TooMany
    else option_map (λ index. FrameTooLong (index + 1)) (position is_long frames)
