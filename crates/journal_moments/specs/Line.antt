-- The exchange of records in place with records turned back that a moment is.
use Rattle.std.specs.Prelude.{◌≡◌, ℕ, ◌+◌, ◌-◌, ◌<◌, ◌≤◌, true, List, [], ◌∷◌, ◌++◌, length, take, reverse}
use Rattle.host_state.specs.State.{State}
use Rattle.host_state.specs.World.{Ready}
use Rattle.host_apart.specs.Spots.{back_of_part, is_keyed_back}
use Rattle.journal_model.specs.Replay.{Entry}
use Rattle.journal_model.specs.Plain.{Past}
use Rattle.journal_model.specs.Well.{Each}
use Rattle.journal_record.specs.After.{state_after}
pub use Rattle.journal_record.specs.Records.{entry_of, entries, RetiresJust, retired_by, IsStanding, IsLying, AllStanding, AllLying, laid, stood, unwound, foot, Leads, IsSpared}
unfoldable pub use Rattle.journal_record.specs.Records.{lay, stand}
pub use Rattle.journal_record.specs.Cut.{behind, between}
use Rattle.journal_record.specs.Recorded.{Recorded}
use Rattle.journal_moments.specs.MomentView.{MomentView}

-- the state below what a moment exchanges
abbrev pub under : State → List Recorded → MomentView → State
under base rs m = state_after base (entries (take m.at rs))

-- what stands once a moment is exchanged
abbrev pub swapped : State → List Recorded → MomentView → List Recorded
swapped base rs m = take m.at rs ++ (stood (under base rs m) (reverse m.other) ++ behind m.stays rs)

-- a moment exchanges a single record, of one key of a map of bytes, which spares those that stay after it
pub record ExchangesOne (rs : List Recorded) (m : MomentView) : Type 0 where
  pub one : Recorded
  pub only : between m.at m.stays rs ++ m.other ≡ one ∷ []
  pub keyed : is_keyed_back (back_of_part one.undoing.part) ≡ true
  pub spared : Each (IsSpared one) (behind m.stays rs)

-- a moment can be exchanged, with room for it; if it leaves records in place, it exchanges a single one below them
pub record CanSwap (ready : Ready) (base : State) (rs : List Recorded) (room : ℕ) (m : MomentView) : Type 0 where
  pub within : m.at + m.stays ≤ length rs
  pub lying : AllLying ready (under base rs m) (reverse m.other)
  pub standing : AllStanding ready (state_after (under base rs m) (entries (reverse m.other))) (behind m.stays rs)
  pub one : 0 < m.stays → ExchangesOne rs m
  pub room_back : length rs ≤ m.at + m.room + m.stays
  pub room_forth : m.at + length m.other + m.stays ≤ room

-- the moments below, the newest first, down to the base
abbrev pub Down : Ready → State → List Recorded → ℕ → List MomentView → Type 0
Down ready base rs room [] = rs ≡ []
Down ready base rs room (m ∷ ms) = CanSwap ready base rs room m × Down ready base (swapped base rs m) room ms

-- the undone moments, the next one first
abbrev pub Up : Ready → State → List Recorded → ℕ → List MomentView → Type 0
Up ready base rs room [] = Unit {0}
Up ready base rs room (m ∷ ms) = CanSwap ready base rs room m × Up ready base (swapped base rs m) room ms

-- the list in force once a moment is exchanged
abbrev pub other_force : List Entry → MomentView → List Entry
other_force es m = take m.at es ++ (entries (reverse m.other) ++ behind m.stays es)

abbrev pub past : State → List Entry → MomentView → Past
past base es m = record { serial = m.serial; out = m.out; force = es; state = state_after base es }

-- the moments that lie below a list in force
abbrev pub pasts_down : State → List Entry → List MomentView → List Past
pasts_down base es [] = []
pasts_down base es (m ∷ ms) = past base es m ∷ pasts_down base (other_force es m) ms

-- the undone moments above it
abbrev pub pasts_up : State → List Entry → List MomentView → List Past
pasts_up base es [] = []
pasts_up base es (m ∷ ms) = past base (other_force es m) m ∷ pasts_up base (other_force es m) ms

-- a moment and what it is once it is exchanged
pub record Exchanged (base : State) (rs : List Recorded) (m n : MomentView) : Type 0 where
  pub at_same : n.at ≡ m.at
  pub serial_same : n.serial ≡ m.serial
  pub out_same : n.out ≡ m.out
  pub stays_same : n.stays ≡ m.stays
  pub other : n.other ≡ reverse (laid (under base rs m) (between m.at m.stays rs))
  pub room_back : length m.other ≤ n.room
