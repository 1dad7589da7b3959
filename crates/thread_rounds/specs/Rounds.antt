-- What the worker of a share does at a desk.
use Rattle.std.specs.Prelude.{◌≡◌, ℕ, ◌-◌, List, length, Option, Some, slice_get}
use Rattle.journal_model.specs.Book.{PlainBook}
use Rattle.journal_model.specs.Run.{PlainEvent}
use Rattle.bt_without.specs.declared.events.Answer.{Answer}
use Rattle.thread_lock.specs.declared.sequential.Sequential.{Ghosts}
use Rattle.thread_lock.specs.declared.seat.Seat.{Seat}
use Rattle.thread_frames.specs.declared.frame.FrameIn.{FrameIn}
use Rattle.thread_frames.specs.declared.frame.Numbered.{Numbered}
use Rattle.bt_workers.specs.declared.result.FrameEnd.{FrameEnd}
use Rattle.bt_workers.specs.declared.result.FrameResult.{FrameResult}
use Rattle.bt_workers.specs.Worked.{ServesFrames, numbers_of}
use Rattle.thread_rounds.specs.declared.place.Place.{Place}
use Rattle.thread_rounds.specs.declared.share.Share.{Share}
use Rattle.thread_rounds.specs.Dealt.{AreDealt}

abbrev pub ending : ℕ → FrameEnd → FrameResult
ending number end = record { number = number; end = end }

-- it has the device and the bytes of the frame of its number
pub record IsCopyAt (all : List FrameIn) (it : Numbered) : Type 0 where
  pub frame : FrameIn
  pub at : slice_get all (it.number - 1) ≡ Some frame
  pub device : it.frame.device ≡ frame.device
  pub bytes : it.frame.bytes.items ≡ frame.bytes.items

module _ {g : Ghosts PlainBook PlainEvent Answer} where
  -- a seat made the calls of these frames, one after another, and no others; they are those of a share up to a position, but
  -- for some that were left out
  pub record ServesRounds (share : Share) (all : List FrameIn) (passes : Option ℕ) (seat : Seat PlainBook PlainEvent Answer g) (at : Place) (after : Seat PlainBook PlainEvent Answer g) : Type 0 where
    pub ends : List FrameResult
    pub serves : ServesFrames all seat ends after
    pub dealt : AreDealt share (length all) passes at (numbers_of ends)
