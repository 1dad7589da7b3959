use Rattle.std.proofs.Common.{◌≡◌, ◌+◌, ◌-◌, ◌≤◌, length, vec_capacity}
use Rattle.bt_desk.specs.Seats.{IsSeatAt}
use Rattle.thread_frames.specs.Takes.{IsTakeOf, all_of, taken_of, count_of}
use Rattle.bt_workers.specs.Worked.{Works, Tells}
use Rattle.bt_workers.proofs.workers.worker.Given as goal

abbrev pub decreases-frames : goal.decreases-frames
decreases-frames g l = count_of l.frames - length (taken_of l.take)

abbrev pub invariant-frames : goal.invariant-frames
invariant-frames g l =
    IsSeatAt l.desk l.seat × IsTakeOf l.frames l.take × Works l.initial.seat l.initial.take l.ends.items l.seat l.take
    × (length l.ends.items + length (taken_of l.initial.take) ≡ length (taken_of l.take)) × (count_of l.frames ≤ vec_capacity l.ends)
    × Tells g.G.Gate.told (all_of l.initial.take) l.initial.seat l.initial.gate l.ends.items l.seat l.gate
