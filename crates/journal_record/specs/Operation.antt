-- What a note of an operation and its reply says.
use Rattle.std.specs.Prelude.{ℕ, List, ◌+◌, ◌≤◌, length, take, drop}
use Rattle.host_state.specs.declared.reply.Reply.{Reply}
use Rattle.host_state.specs.declared.reply.Reply.TheVariants.{Done, Value}
use Rattle.bt_mapkind.specs.declared.request.MapOp.{MapOp}
use Rattle.bt_mapkind.specs.declared.request.MapOp.TheVariants.{Update, Delete, Push, Pop, Store, SetLink}
use Rattle.journal_record.specs.declared.operation.Form.{Form}
use Rattle.journal_record.specs.declared.operation.Form.TheVariants.{Update as Updates, Delete as Deletes, Push as Pushes, Pop as Pops, Store as Stores, SetLink as SetsLink}

-- an operation and the reply that it got
pub record Answered : Type 0 where
  pub op : MapOp
  pub reply : Reply

-- what a block and a number say
abbrev pub answered_by : List ℕ → ℕ → Form → Answered
answered_by bytes number (Updates key) = record { op = Update (take key bytes) (drop key bytes) number; reply = Done }
answered_by bytes number Deletes = record { op = Delete bytes; reply = Done }
answered_by bytes number Pushes = record { op = Push bytes number; reply = Done }
answered_by bytes number Pops = record { op = Pop; reply = Value bytes }
answered_by bytes number (Stores key) = record { op = Store (take key bytes) number (drop key bytes); reply = Done }
answered_by bytes number (SetsLink id) = record { op = SetLink bytes id number; reply = Done }

-- each part of a block is of at most 260 bytes
abbrev pub IsShortBlock : List ℕ → Form → Type 0
IsShortBlock bytes (Updates key) = (key ≤ 260) × (key ≤ length bytes) × (length bytes ≤ key + 260)
IsShortBlock bytes (Stores key) = (key ≤ 260) × (key ≤ length bytes) × (length bytes ≤ key + 260)
IsShortBlock bytes Deletes = length bytes ≤ 260
IsShortBlock bytes Pushes = length bytes ≤ 260
IsShortBlock bytes Pops = length bytes ≤ 260
IsShortBlock bytes (SetsLink id) = length bytes ≤ 260
