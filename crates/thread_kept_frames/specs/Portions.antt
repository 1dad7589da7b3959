-- Portions of frames, which two workers serve one after the other.
use Rattle.std.specs.Prelude.{◌≡◌, ◌⊎◌, ℕ, List, length, take, drop, map, Option}
use Rattle.journal_model.specs.Book.{PlainBook}
use Rattle.thread_frames.specs.declared.frame.FrameIn.{FrameIn}
use Rattle.bt_workers.specs.declared.result.FrameResult.{FrameResult}
use Rattle.thread_host_run.specs.HostRuns.{AreServed}
use Rattle.thread_kept_frames.specs.declared.live.course.Course.{Course}
use Rattle.thread_kept_frames.specs.Courses.{AreDue, further}

-- what makes a frame: its device and its bytes
abbrev pub content_of : FrameIn → List ℕ × List ℕ
content_of frame = (frame.device, frame.bytes.items)

-- where frames flow: the book, and how far they have come
pub record Flowing : Type 0 where
  pub book : PlainBook
  pub course : Course

abbrev pub flowing : PlainBook → Course → Flowing
flowing b course = record { book = b; course = course }

-- ---- of all frames, for so many passes
module _ (all : List FrameIn) (passes : Option ℕ) where
  -- copies of the next frames were served, as those of a host run are, and they ended so
  pub record ServesPortion (from to : Flowing) : Type 0 where
    pub count : ℕ
    pub due : AreDue (length all) passes from.course count
    pub frames : List FrameIn
    pub copies : map content_of frames ≡ map content_of (take count (drop from.course.next all))
    pub ends : List FrameResult
    pub served : AreServed from.book frames ends to.book
    pub comes : to.course ≡ further (length all) from.course count ends

  -- portions were served one after the other
  pub data Flowed (from : Flowing) : Flowing → Type 0 where
    none : Flowed from from
    portion : {mid to : Flowing} → Flowed from mid → ServesPortion mid to → Flowed from to

  -- the book before a portion, or one after it
  abbrev pub BeforeOrBehind : Flowing → PlainBook → Type 0
  BeforeOrBehind from left = (left ≡ from.book) ⊎ ((course : Course) × ServesPortion from (flowing left course))
