-- What a worker does: frame after frame.
use Rattle.std.specs.Prelude.{◌≡◌, ℕ, ◌+◌, ◌-◌, List, [], ◌∷◌, ◌++◌, length, map, Some, slice_get}
use Rattle.journal_model.specs.Book.{PlainBook}
use Rattle.journal_model.specs.Run.{PlainEvent}
use Rattle.bt_desk.specs.Answer.{Answer}
use Rattle.thread_lock.specs.declared.sequential.Sequential.{Ghosts}
use Rattle.thread_lock.specs.declared.seat.Seat.{Seat}
use Rattle.thread_lock.specs.Seats.{calls_left}
use Rattle.bt_desk.specs.Histories.{Call}
use Rattle.thread_frames.specs.declared.frame.FrameIn.{FrameIn}
use Rattle.thread_frames.specs.declared.frames.Take.{Take}
use Rattle.thread_frames.specs.Takes.{all_of, taken_of, parts_of}
use Rattle.bt_workers.specs.declared.result.FrameResult.{FrameResult}
use Rattle.bt_workers.specs.Served.{Gains, FrameBy}
use Rattle.bt_workers.specs.Gates.{Notice, Answered, passes, unmade, AreTold}

-- the end of one of all frames, which made these calls
pub record EndsOne (all : List FrameIn) (left : ℕ) (ended : FrameResult) (calls : List Call) : Type 0 where
  pub frame : FrameIn
  pub at : slice_get all (ended.number - 1) ≡ Some frame
  pub by : FrameBy left frame calls ended.end

-- the ends of frames that were served one after another, which made these calls
abbrev pub EndBy : List FrameIn → ℕ → List FrameResult → List Call → Type 0
EndBy all left [] calls = calls ≡ []
EndBy all left (ended ∷ more) calls =
    (mine : List Call) × (rest : List Call) × (calls ≡ mine ++ rest) × EndsOne all left ended mine × EndBy all (left - length mine) more rest

-- what a gate is told of a frame that made these calls: of each before it is made, and then that the frame has ended
abbrev pub notices_of : FrameResult → List Call → List Notice
notices_of ended calls = passes ended.number 1 (length calls + unmade ended.end) ++ Answered ended.number ∷ []

module _ {G : Type 0} (told : G → Notice → G → Type 0) where
  -- frames were served one after another and made these calls, and the gate was told of each
  abbrev pub ToldBy : List FrameIn → ℕ → G → List FrameResult → List Call → G → Type 0
  ToldBy all left gate [] calls after = (calls ≡ []) × (after ≡ gate)
  ToldBy all left gate (ended ∷ more) calls after =
      (mine : List Call) × (rest : List Call) × (next : G) × (calls ≡ mine ++ rest) × EndsOne all left ended mine
      × AreTold told gate (notices_of ended mine) next × ToldBy all (left - length mine) next more rest after

abbrev pub number_of : FrameResult → ℕ
number_of ended = ended.number

abbrev pub numbers_of : List FrameResult → List ℕ
numbers_of ends = map number_of ends

module _ {g : Ghosts PlainBook PlainEvent Answer} where
  -- a seat made the calls of these frames, one after another, and no others
  pub record ServesFrames (all : List FrameIn) (seat : Seat PlainBook PlainEvent Answer g) (ends : List FrameResult) (after : Seat PlainBook PlainEvent Answer g) : Type 0 where
    pub calls : List Call
    pub gains : Gains seat calls after
    pub frames : EndBy all (calls_left seat) ends calls

  -- a seat made the calls of these frames, one after another, and no others, and its worker's gate was told of each
  pub record Tells {G : Type 0} (told : G → Notice → G → Type 0) (all : List FrameIn) (seat : Seat PlainBook PlainEvent Answer g) (gate : G) (ends : List FrameResult) (after : Seat PlainBook PlainEvent Answer g) (then : G) : Type 0 where
    pub calls : List Call
    pub gains : Gains seat calls after
    pub frames : ToldBy told all (calls_left seat) gate ends calls then

  -- the frames are those that a take took, in this order
  pub record Works (seat : Seat PlainBook PlainEvent Answer g) (take : Take) (ends : List FrameResult) (after : Seat PlainBook PlainEvent Answer g) (took : Take) : Type 0 where
    pub serves : ServesFrames (all_of take) seat ends after
    pub taken : taken_of took ≡ taken_of take ++ numbers_of ends
    pub same_all : all_of took ≡ all_of take
    pub same_parts : parts_of took ≡ parts_of take
