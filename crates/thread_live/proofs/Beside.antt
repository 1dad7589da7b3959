-- A console beside the workers and the keeper.
use Rattle.std.proofs.Common.{◌≡◌, Result, Ok, Err}
use Rattle.std.specs.Prelude.{IfOk}
use Rattle.journal_model.specs.Book.{PlainBook}
use Rattle.journal_model.specs.Run.{PlainEvent}
use Rattle.bt_without.specs.declared.events.Answer.{Answer}
use Rattle.thread_lock.specs.declared.sequential.Sequential.{Ghosts}
use Rattle.thread_lock.specs.declared.seat.Seat.{Seat}
use Rattle.thread_lock.specs.Seats.{Heard}
use Rattle.bt_desk.specs.declared.desk.Desk.{Desk}
use Rattle.thread_trial.specs.Kept.{Keeps}
use Rattle.thread_live.specs.declared.traffic.Traffic.{Traffic}
use Rattle.thread_live.specs.Crew.{Parted, Man, TalksAndEnds, Beside}

module _ {K T E : Type 0} {g : Ghosts PlainBook PlainEvent Answer} (desk : Desk K)
    (Did : Seat PlainBook PlainEvent Answer g → T → Seat PlainBook PlainEvent Answer g → Type 0) where
  -- a console that told something, and then the way back, beside the others
  pub beside : (traffic : Traffic) (r : Result T E) (old rest crew console keeper crew_end keeper_end console_end mid new : Seat PlainBook PlainEvent Answer g)
      → Parted old rest crew → Parted rest console keeper → Man traffic 1 traffic.workers crew crew_end → Keeps desk keeper keeper_end
      → IfOk r (λ told. TalksAndEnds desk Did console told console_end) → Heard console_end keeper_end mid → Heard mid crew_end new
      → IfOk r (λ told. Beside desk traffic (λ from to. TalksAndEnds desk Did from told to) old new)
  beside traffic (Ok told) old rest crew console keeper crew_end keeper_end console_end mid new one two serves keeps did hears_keeper hears_crew = record {
    crew = crew;
    rest = rest;
    keeper = keeper;
    console = console;
    crew_is_parted = one;
    keeper_is_parted = two;
    crew_end = crew_end;
    keeper_end = keeper_end;
    console_end = console_end;
    serves = serves;
    keeps = keeps;
    did = did;
    mid = mid;
    hears_keeper = hears_keeper;
    hears_crew = hears_crew;
  }
  beside traffic (Err why) old rest crew console keeper crew_end keeper_end console_end mid new one two serves keeps did hears_keeper hears_crew = tt
