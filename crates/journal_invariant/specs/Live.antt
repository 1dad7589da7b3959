-- What is live, and what is left of it if the past before a number of moments is given up.
use Rattle.std.specs.Prelude.{◌≡◌, ℕ, ◌++◌}
use Rattle.host_state.specs.State.{State}
use Rattle.host_state.specs.Act.{live_map}
use Rattle.host_state.specs.Ask.{live_prog}
use Rattle.journal_model.specs.Book.{PlainBook, state_of, force_of}

-- the same objects are live, each as it was, and so are the pins and the devices
pub record HasSameLive (s t : State) : Type 0 where
  pub maps : (id : ℕ) → live_map t id ≡ live_map s id
  pub progs : (id : ℕ) → live_prog t id ≡ live_prog s id
  pub pins : t.pins ≡ s.pins
  pub devices : t.devices ≡ s.devices

-- the base has what was live at the mark, the state what was live before, and just the changes after those of the mark are
-- in force
pub record KeepsWhatIsLater (b at_mark c : PlainBook) : Type 0 where
  pub base : HasSameLive (state_of at_mark) c.line.base
  pub state : HasSameLive (state_of b) (state_of c)
  pub force : force_of b ≡ force_of at_mark ++ force_of c
