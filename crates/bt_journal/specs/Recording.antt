-- What recording asks of the boxes that come with changes.
use Rattle.std.specs.Prelude.{◌≡◌, ◌<◌, ◌≤◌, ◌+◌, ⊤, Option, Some, None}
use Rattle.bt_mapkind.specs.declared.attr.MapAttr.{MapAttr}
use Rattle.bt_mapkind.specs.Seen.{Seen, IsFresh}
use Rattle.host_state.specs.declared.change.Change.{Change}
use Rattle.host_state.specs.declared.change.Change.TheVariants.{Create, Load}
use Rattle.journal_model.specs.Book.{PlainBook, charged}
use Rattle.journal_model.specs.Blank.{Blank, IsBlankOf}

-- the blank of the box that comes, if one does
abbrev pub AreBlanks : {K : Type 0} → (K → Seen) → Option K → Option Blank → Type 0
AreBlanks seen None None = ⊤
AreBlanks seen None (Some blank) = ⊥
AreBlanks seen (Some kind) None = ⊥
AreBlanks seen (Some kind) (Some blank) = IsBlankOf (seen kind) blank

-- a change that makes neither a map nor a program
abbrev pub MakesNone : Change → Type 0
MakesNone (Create id attr charge name path template) = ⊥
MakesNone (Load id code name path) = ⊥
MakesNone _ = ⊤

-- a change that makes a map of these attributes
abbrev pub Makes : MapAttr → Change → Type 0
Makes made (Create id attr charge name path template) = made ≡ attr
Makes made _ = ⊥

-- there is an id for a program, if the change loads one; and it makes no map
abbrev pub SuitsNone : PlainBook → Change → Type 0
SuitsNone b (Create id attr charge name path template) = ⊥
SuitsNone b (Load id code name path) = b.last_prog < b.limits.last_id
SuitsNone b _ = ⊤

-- what a new map's box is to be, and what is to be left for it
pub record SuitsNew (seen : Seen) (b : PlainBook) (change : Change) : Type 0 where
  pub ids : b.last_map < b.limits.last_id
  pub charges : charged b + seen.charge ≤ b.limits.budget
  pub fresh : IsFresh seen
  pub suits : Makes seen.attr change

-- a change comes with a box that suits, if it makes a map, and else with none
abbrev pub BoxSuits : {K : Type 0} → (K → Seen) → PlainBook → Change → Option K → Type 0
BoxSuits seen b change None = SuitsNone b change
BoxSuits seen b change (Some kind) = SuitsNew (seen kind) b change
