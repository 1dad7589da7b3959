-- The window of moments: whether the oldest can join the base.
use Rattle.std.specs.Prelude.{ℕ, ◌-◌, ◌==◌, Bool, true, not, ◌&&◌, List, [], ◌∷◌, length, drop, nat_le, is_some, if◌then◌else◌, Option, Some, None}
use Rattle.journal_model.specs.Force.{is_in_force}
use Rattle.journal_model.specs.Replay.{Entry}
use Rattle.journal_model.specs.Plain.{Past, Pasts, newest_force}
use Rattle.journal_model.specs.Rebase.{still_taken_out}

-- the moments in force alone
abbrev pub kept_line : Pasts → Pasts
kept_line p = record p { undone = [] }

-- the oldest moment can join the base: no other in force took its change out
abbrev pub can_fold : Pasts → Bool
can_fold p = nat_le 1 (length p.moments) && not (is_some (still_taken_out 1 (kept_line p)))

-- the change of this serial is the oldest moment's
abbrev pub is_first : ℕ → Pasts → Bool
is_first serial p = is_in_force serial (newest_force (drop (length p.moments - 1) p.moments))

-- ---- by serials
abbrev pub first_serial : List Entry → Option ℕ
first_serial [] = None
first_serial (e ∷ es) = Some e.serial

abbrev pub oldest_serial : List Past → Option ℕ
oldest_serial [] = None
oldest_serial (m ∷ []) = Some m.serial
oldest_serial (m ∷ n ∷ ms) = oldest_serial (n ∷ ms)

abbrev pub if_same : Option ℕ → Option ℕ → Option ℕ
if_same None other = None
if_same (Some serial) None = None
if_same (Some serial) (Some other) = if serial == other then Some serial else None

-- the serial of the oldest moment, if the first change in force is its own
abbrev pub first_in_force : Pasts → Option ℕ
first_in_force p = if_same (first_serial (newest_force p.moments)) (oldest_serial p.moments)

-- the change of a serial is to be taken out: it is the oldest moment's, or that cannot join the base
abbrev pub is_held : ℕ → Option ℕ → Bool
is_held serial None = true
is_held serial (Some first) = first == serial
