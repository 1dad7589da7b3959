-- What the public calls say of takes.
use Rattle.std.specs.Prelude.{◌≡◌, ℕ, List, length}
use Rattle.crossbeam_queue.specs.Passes.{view}
use Rattle.thread_frames.specs.declared.frame.FrameIn.{FrameIn}
use Rattle.thread_frames.specs.declared.frames.Frames.{Frames}
use Rattle.thread_frames.specs.declared.frames.Take.{Take}

-- all frames, in the order of their numbers
abbrev pub all_of : Take → List FrameIn
all_of take = (view take.pass).all

-- the numbers of the frames that the take took, in order
abbrev pub taken_of : Take → List ℕ
taken_of take = (view take.pass).taken

-- its parts of all parts; a take that has all of them is the only one
abbrev pub parts_of : Take → ℕ
parts_of take = take.parts

-- how many frames there are
abbrev pub count_of : Frames → ℕ
count_of frames = frames.count

-- it takes of these frames
pub record IsTakeOf (frames : Frames) (take : Take) : Type 0 where
  pub table : take.pass.table_id ≡ frames.line.table.shared.table_id
  pub count : length (all_of take) ≡ frames.count
