use Rattle.std.proofs.Common.{◌≤◌, length, map, drop, All}
use Rattle.thread_frames.specs.Faults.{IsShort}
use Rattle.thread_capture.specs.Captures.{Stand, packet_of, IsOn}
use Rattle.thread_capture.proofs.capture.frames_in.Given as goal

-- the frames so far are the packets in front of what is left
abbrev pub invariant-packets : goal.invariant-packets
invariant-packets l = record {
  stand : Stand l.order (drop 24 l.bytes) (map packet_of l.frames.items) l.rest;
  on : All (IsOn l.device) l.frames.items;
  few : length l.frames.items ≤ 65536;
  short : All IsShort l.frames.items;
}

abbrev pub decreases-packets : goal.decreases-packets
decreases-packets l = length l.rest
