-- What the threads of a live host do, each from a seat of its own.
use Rattle.std.specs.Prelude.{◌≡◌, ℕ, ◌+◌}
use Rattle.journal_model.specs.Book.{PlainBook}
use Rattle.journal_model.specs.Run.{PlainEvent}
use Rattle.bt_without.specs.declared.events.Answer.{Answer}
use Rattle.thread_lock.specs.declared.sequential.Sequential.{Ghosts}
use Rattle.thread_lock.specs.declared.seat.Seat.{Seat}
use Rattle.thread_lock.specs.Seats.{Heard, seen, numbers}
use Rattle.bt_desk.specs.declared.desk.Desk.{Desk}
use Rattle.thread_rounds.specs.declared.place.Place.{Place}
use Rattle.thread_rounds.specs.declared.share.Share.{Share}
use Rattle.thread_rounds.specs.Rounds.{ServesRounds}
use Rattle.thread_trial.specs.Kept.{Keeps}
use Rattle.thread_live.specs.declared.traffic.Traffic.{Traffic}

module _ {g : Ghosts PlainBook PlainEvent Answer} where
  -- the worker of a number served the frames from there on, as many further each time as there are workers
  pub record Works (traffic : Traffic) (first : ℕ) (seat after : Seat PlainBook PlainEvent Answer g) : Type 0 where
    pub share : Share
    pub first_is : share.first ≡ first
    pub stride_is : share.stride ≡ traffic.workers
    pub place : Place
    pub serves : ServesRounds share traffic.frames.items traffic.passes seat place after

  -- a seat was parted in two, which have seen what it had, and the new one has a number of its own
  pub record Parted (old one other : Seat PlainBook PlainEvent Answer g) : Type 0 where
    pub same : seen one ≡ seen old
    pub other_same : seen other ≡ seen old
    pub same_numbers : numbers one ≡ numbers old

  -- so many workers from a number on served their frames, each from a seat that was parted from this one and joined to it again
  pub data Man (traffic : Traffic) : ℕ → ℕ → Seat PlainBook PlainEvent Answer g → Seat PlainBook PlainEvent Answer g → Type 0 where
    one : (first : ℕ) (seat after : Seat PlainBook PlainEvent Answer g) → Works traffic first seat after → Man traffic first 1 seat after
    more : (first half rest : ℕ) (seat left right left' right' after : Seat PlainBook PlainEvent Answer g) → Parted seat left right
        → Man traffic first half left left' → Man traffic (first + half) rest right right' → Heard left' right' after → Man traffic first (half + rest) seat after

-- What may be said of a console that came back: by what it was, the runtime, the desk and the traffic; by its seat before, what it
-- told, and its seat after that
abbrev pub Talks : Type 0 → Type 0 → Type 0 → Type 0 → Type 1
Talks C R K T =
    (g : Ghosts PlainBook PlainEvent Answer) → C → R → Desk K → Traffic → Seat PlainBook PlainEvent Answer g → T → Seat PlainBook PlainEvent Answer g → Type 0

module _ {K T : Type 0} {g : Ghosts PlainBook PlainEvent Answer} (desk : Desk K)
    (Did : Seat PlainBook PlainEvent Answer g → T → Seat PlainBook PlainEvent Answer g → Type 0) where
  -- a console did so by its seat, and then what it still tried was undone
  pub record TalksAndEnds (old : Seat PlainBook PlainEvent Answer g) (told : T) (new : Seat PlainBook PlainEvent Answer g) : Type 0 where
    pub mid : Seat PlainBook PlainEvent Answer g
    pub talks : Did old told mid
    pub ends : Keeps desk mid new

module _ {K : Type 0} {g : Ghosts PlainBook PlainEvent Answer} (desk : Desk K) (traffic : Traffic)
    (Did : Seat PlainBook PlainEvent Answer g → Seat PlainBook PlainEvent Answer g → Type 0) where
  -- All workers served their frames, a keeper took back what was tried, and a console did so, each by a seat that was parted from
  -- this one, and joined to it again
  pub record Beside (old new : Seat PlainBook PlainEvent Answer g) : Type 0 where
    pub crew : Seat PlainBook PlainEvent Answer g
    pub rest : Seat PlainBook PlainEvent Answer g
    pub keeper : Seat PlainBook PlainEvent Answer g
    pub console : Seat PlainBook PlainEvent Answer g
    pub crew_is_parted : Parted old rest crew
    pub keeper_is_parted : Parted rest console keeper
    pub crew_end : Seat PlainBook PlainEvent Answer g
    pub keeper_end : Seat PlainBook PlainEvent Answer g
    pub console_end : Seat PlainBook PlainEvent Answer g
    pub serves : Man traffic 1 traffic.workers crew crew_end
    pub keeps : Keeps desk keeper keeper_end
    pub did : Did console console_end
    pub mid : Seat PlainBook PlainEvent Answer g
    pub hears_keeper : Heard console_end keeper_end mid
    pub hears_crew : Heard mid crew_end new
