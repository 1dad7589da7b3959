-- The table of masks, as the pass keeps it.
use Rattle.std.specs.Prelude.{◌≡◌, ◌≢◌, ℕ, ◌<◌, ◌≤◌, ◌⊎◌, Option, Some, None, List, [], ◌∷◌, length, min, slice_index}
use Rattle.std.specs.Int.{bit_at}
use Rattle.bt_insn.specs.declared.insn.Insn.{Insn}
use Rattle.bt_verify.specs.declared.slot.Slot.{Slot}
use Rattle.bt_verify.specs.Flow.{Goes}
use Rattle.bt_verify.specs.Paths.{Steps, IsPath, written}

-- the mask at one place is met with another
pub record Meets (to out : ℕ) (old new : List ℕ) : Type 0 where
  pub long : length new ≡ length old
  pub at : (r : ℕ) → bit_at (slice_index new to) r ≡ min (bit_at (slice_index old to) r) (bit_at out r)
  pub others : (k : ℕ) → k ≢ to → slice_index new k ≡ slice_index old k

abbrev pub MeetsAt : Option ℕ → ℕ → List ℕ → List ℕ → Type 0
MeetsAt None out old new = new ≡ old
MeetsAt (Some to) out old new = Meets to out old new

-- the mask is met with that of each successor
pub record Passes (insn : Insn) (place out : ℕ) (old new : List ℕ) : Type 0 where
  pub long : length new ≡ length old
  pub onto : (k r : ℕ) → Goes insn place k → bit_at (slice_index new k) r ≤ bit_at out r
  pub below : (k r : ℕ) → bit_at (slice_index new k) r ≤ bit_at (slice_index old k) r
  pub only : (k r : ℕ) → bit_at (slice_index new k) r ≡ 0 → (bit_at (slice_index old k) r ≡ 0) ⊎ (Goes insn place k × (bit_at out r ≡ 0))

-- a path whose slots are below i
abbrev pub IsPathBelow : List Slot → ℕ → List ℕ → ℕ → Type 0
IsPathBelow code i [] k = k ≡ 0
IsPathBelow code i (j ∷ js) k = (j < i) × Steps code j k × IsPath code js j

-- a bit is 1 if each path by slots below i writes the register; bit 15 if there is no such path
pub record IsTable (code : List Slot) (i : ℕ) (masks : List ℕ) : Type 0 where
  pub long : length masks ≡ length code
  pub covers : (k r : ℕ) (p : List ℕ) → k < length code → IsPathBelow code i p k → bit_at (slice_index masks k) r ≤ written code p r
  pub reached : (k r : ℕ) → k < length code → r < 16 → bit_at (slice_index masks k) r ≡ 0 → (p : List ℕ) × IsPathBelow code i p k × (written code p r ≡ 0)

-- the lowest register of a set that is not empty
pub record IsLowest (n r : ℕ) : Type 0 where
  pub register : r < 11
  pub set : bit_at n r ≡ 1
  pub least : (k : ℕ) → k < r → bit_at n k ≡ 0
