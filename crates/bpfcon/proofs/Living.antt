-- A live host from when its desk was opened until its threads had ended.
use Rattle.std.proofs.Common.{◌≡◌, Result, Ok, Err, refl, subst}
use Rattle.std.specs.Prelude.{IfOk}
use Rattle.journal_model.specs.Book.{PlainBook}
use Rattle.journal_model.specs.Run.{PlainEvent}
use Rattle.bt_without.specs.declared.events.Answer.{Answer}
use Rattle.thread_lock.specs.declared.sequential.Sequential.{Ghosts}
use Rattle.thread_lock.specs.declared.seat.Seat.{Seat}
use Rattle.bt_desk.specs.declared.desk.Desk.{Desk}
use Rattle.thread_live.specs.declared.traffic.Traffic.{Traffic}
use Rattle.thread_live.specs.Crew.{TalksAndEnds, Beside}

-- what holds of what a result holds, if it holds anything
pub if_ok : {A E : Type 0} (P : A → Type 0) (r : Result A E) → ((a : A) → r ≡ Ok a → P a) → IfOk r P
if_ok P (Ok a) holds = holds a refl
if_ok P (Err why) holds = tt

module _ {K T A E : Type 0} {g : Ghosts PlainBook PlainEvent Answer} (desk : Desk K) (traffic : Traffic) (told : T) (ran_of : T → Result A E)
    (Did : T → Seat PlainBook PlainEvent Answer g → A → Seat PlainBook PlainEvent Answer g → Type 0) (Also : T → Type 0) where
  -- a console that came to its end told how
  pub beside_one_that_ended : (ran : A) (old new : Seat PlainBook PlainEvent Answer g) → ran_of told ≡ Ok ran
      → Beside desk traffic (λ from to. TalksAndEnds desk (λ at (it : T) on. IfOk (ran_of it) (λ done. Did it at done on) × Also it) from told to) old new
      → Beside desk traffic (λ from to. TalksAndEnds desk (Did told) from ran to) old new
  beside_one_that_ended ran old new is all = record {
    crew = all.crew;
    rest = all.rest;
    keeper = all.keeper;
    console = all.console;
    crew_is_parted = all.crew_is_parted;
    keeper_is_parted = all.keeper_is_parted;
    crew_end = all.crew_end;
    keeper_end = all.keeper_end;
    console_end = all.console_end;
    serves = all.serves;
    keeps = all.keeps;
    did = record {
      mid = all.did.mid;
      talks = subst (λ r. IfOk r (λ done. Did told all.console done all.did.mid)) is all.did.talks.0;
      ends = all.did.ends;
    };
    mid = all.mid;
    hears_keeper = all.hears_keeper;
    hears_crew = all.hears_crew;
  }
