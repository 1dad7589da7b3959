-- What is kept of a change: its entry, and what turns it.
use Rattle.std.specs.Prelude.{ℕ}
use Rattle.host_state.specs.declared.change.Change.{Change}
use Rattle.host_state.specs.declared.reply.Reply.{Reply}
use Rattle.host_undoing.specs.declared.undoing.Undoing.{Undoing}
use Rattle.journal_model.specs.Replay.{Entry}

pub record Recorded : Type 0 where
  pub entry : Entry
  pub undoing : Undoing

-- a change with its serial, its reply and what turns it
abbrev pub recorded : ℕ → Change → Reply → Undoing → Recorded
recorded serial change reply undoing = record {
  entry = record { serial = serial; change = change; reply = reply };
  undoing = undoing;
}
