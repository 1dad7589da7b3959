-- A frame and its device, read a word at a time.
use Rattle.std.specs.Prelude.{ℕ, if◌then◌else◌, List, Option, Some, None, codes}
use Rattle.std.specs.Option.{option_map}
use Rattle.std.specs.Str.{bytes_eq}
use Rattle.bt_syntax.specs.FrameGrammar.{frame_bytes, frame_at}
use Rattle.bt_syntax.specs.declared.frame.Frame.{Frame}
use Rattle.bt_syntax.specs.declared.frame.FrameState.{FrameState}
use Rattle.bt_syntax.specs.declared.frame.FrameState.TheVariants as f

abbrev pub dev_step : List ℕ → Option FrameState
dev_step w = if bytes_eq w (codes "dev") then Some f.Name else None

abbrev pub bytes_step : List ℕ → List ℕ → Option FrameState
bytes_step device w = option_map (f.Done device) (frame_bytes w)

abbrev pub frame_step : FrameState → List ℕ → Option FrameState
frame_step f.Dev w = dev_step w
frame_step f.Name w = Some (f.Bytes w)
frame_step (f.Bytes device) w = bytes_step device w
frame_step (f.Done device bytes) w = None

abbrev pub frame_finish : FrameState → Option Frame
frame_finish f.Dev = None
frame_finish f.Name = None
frame_finish (f.Bytes device) = None
frame_finish (f.Done device bytes) = Some (frame_at device bytes)
