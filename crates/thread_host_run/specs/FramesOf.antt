-- The frames of a file: those of a capture if it begins as one, and else those that its lines spell.
use Rattle.std.specs.Prelude.{◌≡◌, ◌↔◌, ℕ, Bool, true, false, is_some, List, codes}
use Rattle.thread_frames.specs.declared.frame.FrameIn.{FrameIn}
use Rattle.thread_frame_lines.specs.FrameLines.{Spells}
use Rattle.thread_capture.specs.Captures.{order_of, HasFrames}
use Rattle.thread_host_run.specs.declared.no_frames.NoFrames.{NoFrames}
use Rattle.thread_host_run.specs.declared.no_frames.NoFrames.TheVariants.{Capture}

-- the device at which the frames of a capture come in, if none is named
abbrev pub capture_device : List ℕ
capture_device = codes "eth0"

abbrev pub FramesBy : Bool → List ℕ → List ℕ → List FrameIn → Type 0
FramesBy true device bytes all = HasFrames bytes device all
FramesBy false device bytes all = Spells bytes all

-- those of a capture come in at this device
abbrev pub AreFramesAt : List ℕ → List ℕ → List FrameIn → Type 0
AreFramesAt device bytes all = FramesBy (is_some (order_of bytes)) device bytes all

abbrev pub AreFramesOf : List ℕ → List FrameIn → Type 0
AreFramesOf bytes all = AreFramesAt capture_device bytes all

-- why bytes are no frames: it is told of a capture exactly if they begin as one
abbrev pub TellsNoFrames : List ℕ → NoFrames → Type 0
TellsNoFrames bytes why = (why ≡ Capture) ↔ (is_some (order_of bytes) ≡ true)
