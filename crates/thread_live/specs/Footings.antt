-- Where the console of a live host stands, and what it is to refuse a line.
use Rattle.std.specs.Prelude.{◌≡◌, ℕ, List, Option}
use Rattle.std.specs.Io.KnownBytes.{Appends}
use Rattle.journal_model.specs.Book.{PlainBook}
use Rattle.journal_model.specs.Run.{PlainEvent}
use Rattle.bt_without.specs.declared.events.Answer.{Answer as EventAnswer}
use Rattle.thread_lock.specs.declared.sequential.Sequential.{Ghosts}
use Rattle.thread_lock.specs.declared.seat.Seat.{Seat}
use Rattle.console_answer.specs.declared.answer.Answer.TheVariants.{Refused}
use Rattle.console_answer.specs.declared.fault.Fault.{Fault}
use Rattle.console_answer.specs.declared.told.Told.TheVariants as told
use Rattle.console_script.specs.declared.summary.Summary.{Summary}
use Rattle.console_script.specs.declared.tally.Tally.{Tally}
use Rattle.console_script.specs.Tallies.{fresh, tallied_told}
use Rattle.console_text.specs.Text.{text_of}
use Rattle.thread_at_desk.specs.declared.session.Session.{Session}

-- where a console stands between two lines: what it keeps, its seat, and what was written
pub record Footing (S : Type 0) (g : Ghosts PlainBook PlainEvent EventAnswer) : Type 0 where
  pub session : Session S
  pub seat : Seat PlainBook PlainEvent EventAnswer g
  pub text : Option (List ℕ)

abbrev pub footing : {S : Type 0} {g : Ghosts PlainBook PlainEvent EventAnswer} → Session S → Seat PlainBook PlainEvent EventAnswer g → Option (List ℕ) → Footing S g
footing session seat text = record { session = session; seat = seat; text = text }

-- that a line is refused so was written, and counted
pub record RefusesBy (text text' : Option (List ℕ)) (fault : Fault) (summary : Summary) (tally : Tally) : Type 0 where
  pub wrote : Appends text text' (text_of (Refused fault))
  pub counted : tally ≡ tallied_told (fresh summary) (told.Refused fault)
