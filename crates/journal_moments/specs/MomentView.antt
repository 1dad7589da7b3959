-- A moment as contracts see it.
use Rattle.std.specs.Prelude.{◌≡◌, ◌≤◌, ⊤, ℕ, List, [], Option, Some, None, vec_capacity}
use Rattle.journal_record.specs.Recorded.{Recorded}
pub use Rattle.journal_record.specs.Records.{others}
use Rattle.journal_moments.specs.declared.moment.Taking.{Taking}
use Rattle.journal_moments.specs.declared.moment.Form.{Form}
use Rattle.journal_moments.specs.declared.moment.Form.TheVariants as form

-- past the first `at` records and before the last `stays`, those in place are exchanged with the other ones, the last of which
-- goes first
pub record MomentView : Type 0 where
  pub serial : ℕ
  -- the serial of the change that it took out, if it took one out
  pub out : Option ℕ
  pub at : ℕ
  pub stays : ℕ
  pub other : List Recorded
  -- how many records it can hold in the place of the other ones
  pub room : ℕ

abbrev pub left_free : Option Recorded → ℕ
left_free None = 1
left_free (Some r) = 0

abbrev pub change_view : ℕ → ℕ → Option Recorded → MomentView
change_view serial at undone = record { serial = serial; out = None; at = at; stays = 0; other = others undone; room = left_free undone }

abbrev pub taking_view : Taking → MomentView
taking_view t = record { serial = t.serial; out = Some t.out; at = t.at; stays = t.stays; other = t.other.items; room = vec_capacity t.spare }

abbrev pub view_of : Form → MomentView
view_of (form.Change serial at undone) = change_view serial at undone
view_of (form.Taking taking) = taking_view taking.value

-- the room of a taking out is empty
abbrev pub IsSpare : Form → Type 0
IsSpare (form.Change _ _ _) = ⊤
IsSpare (form.Taking taking) = taking.value.spare.items ≡ []

-- a taking out that begins: nothing is turned back, and there is room for all that stands in place
pub record HasTurnedNothing (out at : ℕ) (t : Taking) : Type 0 where
  pub out_is : t.out ≡ out
  pub at_is : t.at ≡ at
  pub stays : t.stays ≡ 0
  pub other : t.other.items ≡ []
  pub other_room : at ≤ vec_capacity t.other
  pub spare : t.spare.items ≡ []
  pub spare_room : at ≤ vec_capacity t.spare

-- a taking out that holds no record yet, with room for one
pub record HasRoomForOne (out : ℕ) (t : Taking) : Type 0 where
  pub out_is : t.out ≡ out
  pub other : t.other.items ≡ []
  pub spare : t.spare.items ≡ []
  pub room : 1 ≤ vec_capacity t.spare
