-- When a change can be taken out by one exchange: it is of one key of a map of bytes, and each later one is apart from it.
use Rattle.std.specs.Prelude.{◌≡◌, ◌&&◌, ◌+◌, ◌==◌, ℕ, Bool, true, false, not, if◌then◌else◌, List, [], ◌∷◌, ◌++◌, take, drop}
use Rattle.host_state.specs.State.{State}
use Rattle.host_apart.specs.Spots.{Spot, written, touched, any_meet, back_in, back_of_part, is_keyed_back, are_apart}
use Rattle.journal_model.specs.Replay.{Entry}
use Rattle.journal_model.specs.Force.{is_in_force}
use Rattle.journal_record.specs.After.{after}
use Rattle.journal_record.specs.Records.{entries}
use Rattle.journal_record.specs.Recorded.{Recorded}

-- ---- of changes that are done one after the other from a state on
-- each of them is apart from what was written
abbrev pub all_apart : List Spot → State → List Entry → Bool
all_apart spots s [] = true
all_apart spots s (e ∷ es) = not (any_meet spots (touched e.change (back_in s e.change))) && all_apart spots (after s e) es

-- the one of a serial can be taken out so
abbrev pub is_alone : ℕ → State → List Entry → Bool
is_alone serial s [] = false
is_alone serial s (e ∷ es) =
    if e.serial == serial then is_keyed_back (back_in s e.change) && all_apart (written e.change (back_in s e.change)) (after s e) es else
    is_alone serial (after s e) es

-- ---- of their records
abbrev pub spares : Recorded → List Recorded → Bool
spares one [] = true
spares one (r ∷ rs) = are_apart one.entry.change one.undoing.part r.entry.change r.undoing.part && spares one rs

abbrev pub is_alone_of : ℕ → List Recorded → Bool
is_alone_of serial [] = false
is_alone_of serial (r ∷ rs) = if r.entry.serial == serial then is_keyed_back (back_of_part r.undoing.part) && spares r rs else is_alone_of serial rs

-- the first record of a serial comes after so many
pub record IsPlaceOf (serial : ℕ) (rs : List Recorded) (at : ℕ) : Type 0 where
  pub one : Recorded
  pub is : rs ≡ take at rs ++ one ∷ drop (at + 1) rs
  pub serial_is : one.entry.serial ≡ serial
  pub first : is_in_force serial (entries (take at rs)) ≡ false
