-- What two workers on two threads do.
use Rattle.std.specs.Prelude.{◌≡◌, List, ◌++◌, Result, MatchResult}
use Rattle.std.specs.declared.alloc.AllocError.{AllocError}
use Rattle.std.specs.declared.vec.Vec.{Vec}
use Rattle.std.specs.declared.alloc.Global.{Global}
use Rattle.std.specs.List.Sorted.{IsPermutation}
use Rattle.journal_model.specs.Book.{PlainBook}
use Rattle.journal_model.specs.Run.{PlainEvent}
use Rattle.bt_desk.specs.Answer.{Answer}
use Rattle.thread_lock.specs.declared.sequential.Sequential.{Ghosts}
use Rattle.thread_lock.specs.declared.seat.Seat.{Seat}
use Rattle.bt_desk.specs.declared.desk.Desk.{Desk}
use Rattle.bt_desk.specs.Seats.{IsSeatAt}
use Rattle.thread_frames.specs.declared.frame.FrameIn.{FrameIn}
use Rattle.thread_frames.specs.declared.frames.Frames.{Frames}
use Rattle.thread_frames.specs.declared.frames.Take.{Take}
use Rattle.thread_frames.specs.Takes.{IsTakeOf}
use Rattle.bt_workers.specs.declared.result.FrameResult.{FrameResult}
use Rattle.bt_workers.specs.Worked.{Works, ServesFrames}

module _ {K : Type 0} {g : Ghosts PlainBook PlainEvent Answer} where
  -- a worker that began with this seat and this take left those; without memory for the ends it left all as it was
  pub record WorksAt (desk : Desk K) (frames : Frames) (seat : Seat PlainBook PlainEvent Answer g) (take : Take) (after : Seat PlainBook PlainEvent Answer g) (took : Take) (ends : Result (Vec FrameResult Global) AllocError) : Type 0 where
    pub seat_at : IsSeatAt desk after
    pub take_of : IsTakeOf frames took
    pub works : MatchResult ends (λ (ends : Vec FrameResult Global). Works seat take ends.items after took) (λ _. (after ≡ seat) × (took ≡ take))

module _ {g : Ghosts PlainBook PlainEvent Answer} where
  -- each of two seats made the calls of some frames, in the order in which its worker took them, and these are all their ends
  pub record WorkBoth (all : List FrameIn) (first second one two : Seat PlainBook PlainEvent Answer g) (ends : List FrameResult) : Type 0 where
    pub ones : List FrameResult
    pub twos : List FrameResult
    pub by_first : ServesFrames all first ones one
    pub by_second : ServesFrames all second twos two
    pub order : IsPermutation (ones ++ twos) ends
