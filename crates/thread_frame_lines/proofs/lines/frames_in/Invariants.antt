use Rattle.std.proofs.Common.{◌≡◌, ◌+◌, ◌≤◌, ◌++◌, map, length, []}
use Rattle.std.specs.Option.{option_map_or}
use Rattle.std.specs.List.{All, slice_split}
use Rattle.thread_frames.specs.Faults.{IsShort}
use Rattle.thread_frame_lines.specs.FrameLines.{frame_of, told, lines_of, is_feed}
use Rattle.thread_frame_lines.proofs.lines.frames_in.Given as goal

-- the frames so far, and the lines that are left, are all
abbrev pub invariant-lines : goal.invariant-lines
invariant-lines l = record {
  all : map frame_of (lines_of l.text) ≡ map told l.frames.items ++ map frame_of (option_map_or (λ rest. slice_split is_feed rest.now) l.rest []);
  few : length l.frames.items ≤ 65536;
  short : All IsShort l.frames.items;
}

abbrev pub decreases-lines : goal.decreases-lines
decreases-lines l = option_map_or (λ rest. length rest.now + 1) l.rest 0
