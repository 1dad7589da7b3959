-- What a timeline holds, and what contracts see of it.
use Rattle.std.specs.Prelude.{◌≡◌, ℕ, ◌≤◌, List, length, map as each, take, drop, reverse}
use Rattle.host_state.specs.State.{State}
use Rattle.host_state.specs.World.{WorldView}
use Rattle.journal_model.specs.Plain.{Pasts}
use Rattle.journal_record.specs.Recorded.{Recorded}
use Rattle.journal_moments.specs.View.{LineView}
use Rattle.journal_moments.specs.Line.{entries, foot, Leads, Down, Up, pasts_down, pasts_up}
use Rattle.journal_moments.specs.Lowered.{lowered}
use Rattle.journal_moments.specs.MomentView.{MomentView}

-- a world, its records with their room, how many moments are in force, those, and the undone ones, the next one first; their
-- positions count the records in place
pub record Held : Type 0 where
  pub world : WorldView
  pub records : List Recorded
  pub room : ℕ
  pub standing : ℕ
  pub moments : List MomentView
  pub undone : List MomentView

-- of moments whose positions count those records, too, that are gone
abbrev pub held : WorldView → List Recorded → ℕ → List MomentView → ℕ → ℕ → Held
held world records room moments standing gone = record {
  world = world;
  records = records;
  room = room;
  standing = standing;
  moments = each (lowered gone) (take standing moments);
  undone = each (lowered gone) (drop standing moments);
}

abbrev pub base_of : Held → State
base_of a = foot a.world.state a.records

unfoldable pub pasts_of : Held → Pasts
pasts_of a = record {
  base = base_of a;
  moments = pasts_down (base_of a) (entries a.records) (reverse a.moments);
  undone = pasts_up (base_of a) (entries a.records) a.undone;
}

-- what contracts see
abbrev pub line_of : Held → LineView
line_of a = record { pasts = pasts_of a; makes = a.world.ready.makes; work = a.world.work }

-- the records lead from the base to the state, and each moment can be undone or done again, one after the other,
-- with room for it
pub record Sound (a : Held) : Type 0 where
  pub leads : Leads a.world.ready (base_of a) a.world.state a.records
  pub down : Down a.world.ready (base_of a) a.records a.room (reverse a.moments)
  pub up : Up a.world.ready (base_of a) a.records a.room a.undone
  pub room_records : length a.records ≤ a.room
  pub counts : length a.moments ≡ a.standing
