-- How far the frames of a live host have come.
use Rattle.std.specs.Prelude.{ℕ, ◌+◌, ◌≤◌, ◌<◌, nat_lt, if◌then◌else◌, List, [], ◌∷◌, Option, IfSome}
use Rattle.bt_workers.specs.declared.result.FrameResult.{FrameResult}
use Rattle.thread_rounds.specs.declared.tally.Tally.{Tally}
use Rattle.thread_rounds.specs.Counted.{counted}
use Rattle.thread_kept_frames.specs.declared.live.course.Course.{Course}
use Rattle.thread_kept_frames.specs.declared.live.course.TheConstants.{MOST_PORTION}

-- no frame has ended
abbrev pub no_frames : Tally
no_frames = record { frames = 0; aborted = 0; drop = 0; pass = 0; tx = 0; redirect = 0; faulted = 0; no_program = 0; no_device = 0; no_memory = 0; spent = 0 }

-- before the first frame
abbrev pub start : Course
start = record { pass = 0; next = 0; tally = no_frames }

-- with these ends counted, too
abbrev pub tallied : Tally → List FrameResult → Tally
tallied tally [] = tally
tallied tally (it ∷ ends) = tallied (counted tally it.end) ends

-- so many frames further, of so many in a pass, which ended so; after the last of a pass, before the first of the next one
abbrev pub further : ℕ → Course → ℕ → List FrameResult → Course
further all at count ends =
    let tally = tallied at.tally ends in
    if nat_lt (at.next + count) all then record { pass = at.pass; next = at.next + count; tally = tally } else record { pass = at.pass + 1; next = 0; tally = tally }

-- of so many frames, these next ones make a portion: at least one, not too many, and all of one pass, which is still to be made
pub record AreDue (all : ℕ) (passes : Option ℕ) (at : Course) (count : ℕ) : Type 0 where
  pub some : 0 < count
  pub few : count ≤ MOST_PORTION
  pub there : at.next + count ≤ all
  pub pass : IfSome passes (λ n. at.pass < n)
