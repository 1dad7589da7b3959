-- Frames as the lines of a text spell them: a device, one space, and `hex:` with two digits for each byte.
use Rattle.std.specs.Prelude.{◌≡◌, ◌==◌, ℕ, ◌≤◌, Bool, not, ◌&&◌, ◌||◌, if◌then◌else◌, List, [], length, map, Option, Some, None}
use Rattle.std.specs.List.{list_all, slice_split, before_first, after_first}
use Rattle.std.specs.Option.{option_map}
use Rattle.std.specs.Io.BufRead.{strip_last}
use Rattle.console_operand.specs.Word.{ends_word, has_bytes}
use Rattle.bt_syntax.specs.FrameGrammar.{frame_bytes}
use Rattle.thread_frames.specs.declared.frame.FrameIn.{FrameIn}
use Rattle.thread_frames.specs.declared.frame.TheConstants.{MOST_FRAMES}

abbrev pub is_feed : ℕ → Bool
is_feed byte = byte == 10

abbrev pub is_gap : ℕ → Bool
is_gap byte = byte == 32

-- the lines of a text: each ends with LF, which the last may lack
abbrev pub lines_of : List ℕ → List (List ℕ)
lines_of text = if has_bytes text then slice_split is_feed (strip_last 10 text) else []

-- neither a space, a tab nor `#`, as in every word, nor CR
abbrev pub is_device_letter : ℕ → Bool
is_device_letter byte = not (ends_word byte || (byte == 13))

-- a device, which need not exist
abbrev pub is_device : List ℕ → Bool
is_device word = has_bytes word && list_all is_device_letter word

-- a device and the bytes of a frame
abbrev pub frame_at : List ℕ → List ℕ → Option (List ℕ × List ℕ)
frame_at device word = if is_device device then option_map (λ bytes. (device, bytes)) (frame_bytes word) else None

-- what a line spells: in front of its first space the device, and after it the bytes
abbrev pub frame_of : List ℕ → Option (List ℕ × List ℕ)
frame_of line = frame_at (before_first is_gap line) (after_first is_gap line)

abbrev pub told : FrameIn → Option (List ℕ × List ℕ)
told frame = Some (frame.device, frame.bytes.items)

-- each line of the text spells one of the frames, in order
pub record Spells (text : List ℕ) (frames : List FrameIn) : Type 0 where
  pub lines : map frame_of (lines_of text) ≡ map told frames
  pub few : length frames ≤ MOST_FRAMES
