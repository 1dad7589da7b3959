-- What a stage of a timeline holds, and what contracts see of it.
use Rattle.std.specs.Prelude.{◌≡◌, ℕ, ◌+◌, ◌-◌, ◌<◌, ◌≤◌, Bool, true, false, List, [], length, map as each, take, drop, reverse, Some, vec_capacity}
use Rattle.host_state.specs.State.{State}
use Rattle.host_state.specs.World.{WorldView}
use Rattle.journal_model.specs.Plain.{Pasts}
use Rattle.journal_moments.specs.Recorded.{Recorded}
use Rattle.journal_moments.specs.Line.{entries, foot, Leads, CanSwap, swapped, other_force, Down, Up, pasts_down, pasts_up}
use Rattle.journal_moments.specs.Lowered.{lowered}
use Rattle.journal_timeline.specs.Staged.{Staged}
use Rattle.journal_moments.specs.MomentView.{MomentView, taking_view}
use Rattle.journal_moments.specs.declared.moment.Taking.{Taking}

-- a world, the records in place, those turned back as a moment, with the room of its lists, a moment with room for one record,
-- the serial to take out, whether it is out, how many of those turned back are out or done again; and the moments, as a
-- timeline has them
pub record StageHeld : Type 0 where
  pub world : WorldView
  pub records : List Recorded
  pub room : ℕ
  pub pending : MomentView
  pub other_room : ℕ
  pub spare : List Recorded
  pub short : MomentView
  pub short_spare : List Recorded
  pub serial : ℕ
  pub out : Bool
  pub passed : ℕ
  pub standing : ℕ
  pub moments : List MomentView
  pub moments_room : ℕ
  pub undone : List MomentView

abbrev pub stage_held : WorldView → List Recorded → ℕ → Taking → Taking → ℕ → Bool → ℕ → List MomentView → ℕ → ℕ → ℕ → StageHeld
stage_held world records room pending short serial out passed moments moments_room standing gone = record {
  world = world;
  records = records;
  room = room;
  pending = taking_view pending;
  other_room = vec_capacity pending.other;
  spare = pending.spare.items;
  short = taking_view short;
  short_spare = short.spare.items;
  serial = serial;
  out = out;
  passed = passed;
  standing = standing;
  moments = each (lowered gone) (take standing moments);
  moments_room = moments_room;
  undone = each (lowered gone) (drop standing moments);
}

abbrev pub base_of : StageHeld → State
base_of a = foot a.world.state a.records

-- the timeline as it was
abbrev pub pasts_of : StageHeld → Pasts
pasts_of a =
    let force = other_force (entries a.records) a.pending in
    record {
      base = base_of a;
      moments = pasts_down (base_of a) force (reverse a.moments);
      undone = pasts_up (base_of a) force a.undone;
    }

-- what was done again is turned back, and what was turned back is put in place
abbrev pub calls_to_restore : StageHeld → ℕ
calls_to_restore a = (length a.records - (a.pending.at + a.pending.stays)) + length a.pending.other

-- what contracts see
unfoldable pub staged_of : StageHeld → Staged
staged_of a = record {
  line = record { pasts = pasts_of a; makes = a.world.ready.makes; work = a.world.work };
  serial = a.serial;
  in_place = entries a.records;
  left = entries (drop a.passed (reverse a.pending.other));
  out = a.out;
  state = a.world.state;
  to_restore = calls_to_restore a;
}

-- a taking out of the change of a serial that holds no record, with room for one
pub record IsShort (serial : ℕ) (m : MomentView) (spare : List Recorded) : Type 0 where
  pub out : m.out ≡ Some serial
  pub other : m.other ≡ []
  pub empty : spare ≡ []
  pub room : 1 ≤ m.room

-- what is kept while records are turned back
pub record Turning (a : StageHeld) : Type 0 where
  pub at : a.pending.at ≡ length a.records
  pub stays : a.pending.stays ≡ 0
  pub passed : a.passed ≡ 0
  pub room_other : length a.records + length a.pending.other ≤ a.other_room
  pub room_spare : length a.records + length a.pending.other ≤ a.pending.room
  pub short : IsShort a.serial a.short a.short_spare

-- and once the one is out; if others stayed in place after it, none is left to do again
pub record Redoing (a : StageHeld) : Type 0 where
  pub at : length a.records + 1 ≡ a.pending.at + a.pending.stays + a.passed
  pub passed : a.passed ≤ length a.pending.other
  pub none_left : 0 < a.pending.stays → a.passed ≡ length a.pending.other
  pub room_spare : a.passed < length a.pending.other → length a.pending.other ≤ a.pending.room

abbrev pub Phase : Bool → StageHeld → Type 0
Phase false a = Turning a
Phase true a = Redoing a

-- the records lead from the base to the state; what was turned back can be brought back; and then each moment can be
-- undone or done again, one after the other, with room for it and for one moment more
pub record SoundStage (a : StageHeld) : Type 0 where
  pub leads : Leads a.world.ready (base_of a) a.world.state a.records
  pub can : CanSwap a.world.ready (base_of a) a.records a.room a.pending
  pub spare : a.spare ≡ []
  pub out : a.pending.out ≡ Some a.serial
  pub phase : Phase a.out a
  pub down : Down a.world.ready (base_of a) (swapped (base_of a) a.records a.pending) a.room (reverse a.moments)
  pub up : Up a.world.ready (base_of a) (swapped (base_of a) a.records a.pending) a.room a.undone
  pub room_records : length a.records ≤ a.room
  pub counts : length a.moments ≡ a.standing
  pub room_moments : length a.moments + 1 ≤ a.moments_room
