-- Workers that are parted in two halves, and one of them alone.
use Rattle.std.proofs.Common.{◌≡◌, ℕ, ◌+◌, ◌-◌, ◌/◌, List, sym, subst, arith}
use Rattle.journal_model.specs.Book.{PlainBook}
use Rattle.journal_model.specs.Run.{PlainEvent}
use Rattle.bt_without.specs.declared.events.Answer.{Answer}
use Rattle.thread_lock.specs.declared.sequential.Sequential.{Ghosts}
use Rattle.thread_lock.specs.declared.seat.Seat.{Seat}
use Rattle.thread_lock.specs.Seats.{Heard}
use Rattle.thread_frames.specs.declared.frame.FrameIn.{FrameIn}
use Rattle.thread_rounds.specs.declared.place.Place.{Place}
use Rattle.thread_rounds.specs.declared.share.Share.{Share}
use Rattle.thread_rounds.specs.Rounds.{ServesRounds}
use Rattle.thread_live.specs.declared.traffic.Traffic.{Traffic}
use Rattle.thread_live.specs.Crew.{Works, Parted, Man, one, more}

module _ {g : Ghosts PlainBook PlainEvent Answer} (traffic : Traffic) where
  pub works_by : (number : ℕ) (share : Share) (frames : List FrameIn) (place : Place) (seat after : Seat PlainBook PlainEvent Answer g) → frames ≡ traffic.frames.items → share.first ≡ number → share.stride ≡ traffic.workers
      → ServesRounds share frames traffic.passes seat place after → Works traffic number seat after
  works_by number share frames place seat after is first stride serves = record {
    share = share;
    first_is = first;
    stride_is = stride;
    place = place;
    serves = subst (λ all. ServesRounds share all traffic.passes seat place after) is serves;
  }

  pub man_one : (first count : ℕ) (seat after : Seat PlainBook PlainEvent Answer g) → count ≡ 1 → Works traffic first seat after → Man traffic first count seat after
  man_one first count seat after is works = subst (λ n. Man traffic first n seat after) (sym is) (one first seat after works)

  pub man_halves : (first count : ℕ) (seat left right left' right' after : Seat PlainBook PlainEvent Answer g) → Parted seat left right
      → Man traffic first (count / 2) left left' → Man traffic (first + count / 2) (count - count / 2) right right' → Heard left' right' after → Man traffic first count seat after
  man_halves first count seat left right left' right' after parted lower upper heard =
      subst (λ n. Man traffic first n seat after) (omega arith) (more first (count / 2) (count - count / 2) seat left right left' right' after parted lower upper heard)
