-- Doing a list of changes again, each of which is to answer as it did.
use Rattle.std.specs.Prelude.{ℕ, Bool, true, false, ◌==◌, List, [], ◌∷◌, nat_eq, if◌then◌else◌, Result, Ok, Err}
use Rattle.std.specs.Cmp.Lexicographic.{pointwise}
use Rattle.host_state.specs.declared.change.Change.{Change}
use Rattle.host_state.specs.declared.reply.Reply.{Reply}
use Rattle.host_state.specs.declared.reply.Reply.TheVariants.{Done, Id, Loaded, Value, Old}
use Rattle.host_state.specs.State.{State}
use Rattle.host_state.specs.Act.{Outcome, act}

-- a change in force, with its serial and the reply that it got
pub record Entry : Type 0 where
  pub serial : ℕ
  pub change : Change
  pub reply : Reply

-- whether two replies are the same
abbrev pub is_same_reply : Reply → Reply → Bool
is_same_reply Done Done = true
is_same_reply Done (Id b) = false
is_same_reply Done (Loaded b) = false
is_same_reply Done (Value b) = false
is_same_reply Done (Old b) = false
is_same_reply (Id a) Done = false
is_same_reply (Id a) (Id b) = a == b
is_same_reply (Id a) (Loaded b) = false
is_same_reply (Id a) (Value b) = false
is_same_reply (Id a) (Old b) = false
is_same_reply (Loaded a) Done = false
is_same_reply (Loaded a) (Id b) = false
is_same_reply (Loaded a) (Loaded b) = a == b
is_same_reply (Loaded a) (Value b) = false
is_same_reply (Loaded a) (Old b) = false
is_same_reply (Value a) Done = false
is_same_reply (Value a) (Id b) = false
is_same_reply (Value a) (Loaded b) = false
is_same_reply (Value a) (Value b) = pointwise nat_eq a b
is_same_reply (Value a) (Old b) = false
is_same_reply (Old a) Done = false
is_same_reply (Old a) (Id b) = false
is_same_reply (Old a) (Loaded b) = false
is_same_reply (Old a) (Value b) = false
is_same_reply (Old a) (Old b) = a == b

-- the state that an entry leaves if its change answers as it did, else its serial
abbrev pub as_before : Entry → Outcome → Result State ℕ
as_before e (Ok done) = if is_same_reply done.1 e.reply then Ok done.0 else Err e.serial
as_before e (Err errno) = Err e.serial

abbrev pub go_on : Result State ℕ → (State → Result State ℕ) → Result State ℕ
go_on (Ok s) next = next s
go_on (Err serial) next = Err serial

-- the state that a list of entries makes of a state, each answering as it did, else the serial of the first that does not
abbrev pub replay : State → List Entry → Result State ℕ
replay s [] = Ok s
replay s (e ∷ es) = go_on (as_before e (act s e.change)) (λ t. replay t es)
