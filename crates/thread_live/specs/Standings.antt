-- What workers do, by the signal and by how many of them serve frames; and what is told of a line to them.
use Rattle.std.specs.Prelude.{◌≡◌, ℕ, nat_eq, if◌then◌else◌, List, Option, Some, None, codes}
use Rattle.std.specs.Io.KnownBytes.{Appends}
use Rattle.journal_model.specs.Book.{PlainBook}
use Rattle.journal_model.specs.Run.{PlainEvent}
use Rattle.bt_without.specs.declared.events.Answer.{Answer}
use Rattle.thread_lock.specs.declared.sequential.Sequential.{Ghosts}
use Rattle.thread_lock.specs.declared.seat.Seat.{Seat}
use Rattle.bt_desk.specs.declared.desk.Desk.{Desk}
use Rattle.console_script.specs.declared.summary.Summary.{Summary}
use Rattle.console_script.specs.declared.tally.Tally.{Tally}
use Rattle.console_script.specs.Transcript.{accepted_one, refused_one}
use Rattle.console_script.specs.Tallies.{fresh}
use Rattle.thread_at_desk.specs.Ran.{CountedAt}
use Rattle.thread_trial.specs.Kept.{Keeps}
use Rattle.console_live_words.specs.declared.command.WorkersCommand.{WorkersCommand}
use Rattle.console_live_words.specs.declared.command.WorkersCommand.TheVariants as order
use Rattle.thread_rounds.specs.declared.orders.Order.{Order}
use Rattle.thread_rounds.specs.declared.orders.Order.TheVariants.{Go, Rest, Stop}
use Rattle.thread_rounds.specs.declared.orders.Standing.{Standing}
use Rattle.thread_live.specs.declared.report.State.{State}
use Rattle.thread_live.specs.declared.report.State.TheVariants.{Running, Resting, Stopped}
use Rattle.thread_live.specs.declared.report.Report.{Report}
use Rattle.thread_live.specs.declared.traffic.Traffic.{Traffic}
use Rattle.thread_live.specs.declared.workers.Heeded.{Heeded}
use Rattle.thread_live.specs.declared.workers.Heeded.TheVariants.{Done, Refused}
use Rattle.thread_live.specs.Reports.{standing_text, report_text}

abbrev pub state_by : Order → ℕ → State
state_by Go present = if nat_eq present 0 then Resting else Running
state_by Rest present = Stopped
state_by Stop present = Stopped

abbrev pub state_of : Standing → State
state_of standing = state_by standing.order standing.present

-- what the lines come to with one to the workers that was done or refused
abbrev pub heeded : Summary → Heeded → Tally
heeded summary Done = fresh (accepted_one summary)
heeded summary Refused = fresh (refused_one summary)

-- ---- what is told of a line to the workers
module _ (workers : ℕ) (text text' : Option (List ℕ)) where
  -- how many workers there are and what they do
  abbrev pub StandsSo : Type 0
  StandsSo = (state : State) × Appends text text' (standing_text workers state)

  -- so too once they have done their last pass, if there is one
  abbrev pub WaitsSo : Option ℕ → Heeded → Type 0
  WaitsSo (Some passes) Done = StandsSo
  WaitsSo None Refused = Appends text text' (codes "Error: no end\n")
  WaitsSo _ _ = ⊥

module _ {K : Type 0} {g : Ghosts PlainBook PlainEvent Answer} (desk : Desk K) (traffic : Traffic) (most : ℕ) (old new : Seat PlainBook PlainEvent Answer g) (text text' : Option (List ℕ)) where
  -- all that there is to tell of them, with the moments as they were in one call of the desk
  pub record TellsReport : Type 0 where
    pub report : Report
    pub workers : report.workers ≡ traffic.workers
    pub most_moments : report.most_moments ≡ most
    pub counted : CountedAt desk report.moments old new
    pub wrote : Appends text text' (report_text report)

  abbrev pub Tells : WorkersCommand → Heeded → Type 0
  Tells order.Show Done = TellsReport
  Tells order.Stop Done = (new ≡ old) × StandsSo traffic.workers text text'
  Tells order.Go Done = (new ≡ old) × StandsSo traffic.workers text text'
  Tells order.Wait it = (new ≡ old) × WaitsSo traffic.workers text text' traffic.passes it
  Tells _ Refused = ⊥

module _ {K : Type 0} {g : Ghosts PlainBook PlainEvent Answer} (desk : Desk K) (traffic : Traffic) (most : ℕ) (old new : Seat PlainBook PlainEvent Answer g) (text text' : Option (List ℕ)) where
  -- what was still tried was undone, and then all that there is to tell of the workers was told, who had stopped, but for their rate
  pub record EndsTraffic : Type 0 where
    pub mid : Seat PlainBook PlainEvent Answer g
    pub gives_back : Keeps desk old mid
    pub tells : TellsReport desk traffic most mid new text text'
    pub stopped : tells.report.state ≡ Stopped
    pub no_rate : tells.report.rate ≡ None
