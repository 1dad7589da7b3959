-- What a new book gives and every event keeps.
use Rattle.std.specs.Prelude.{◌≡◌, ◌⊎◌, ⊤, ℕ, ◌+◌, ◌<◌, ◌≤◌, List, [], ◌∷◌, ◌++◌, length, reverse, IsTrue, Ok, Option, None, Some}
use Rattle.std.specs.FinMap as map
use Rattle.bt_objects.specs.declared.make.Make.{Make}
use Rattle.bt_objects.specs.ById.{ById}
use Rattle.host_state.specs.State.{State}
use Rattle.host_state.specs.Settled.{IsSettled}
use Rattle.host_state.specs.World.{makes_in}
use Rattle.journal_model.specs.Replay.{Entry, replay}
use Rattle.journal_model.specs.Plain.{Past, Pasts, newest_force}
use Rattle.journal_model.specs.Book.{PlainBook, kept_states, makes_of}
use Rattle.journal_model.specs.Force.{is_in_force, without}

-- it holds of each element
abbrev pub Each : {X : Type 0} → (X → Type 0) → List X → Type 0
Each P [] = ⊤
Each P (x ∷ xs) = P x × Each P xs

-- it holds of each element and each later one
abbrev pub EachPair : {X : Type 0} → (X → X → Type 0) → List X → Type 0
EachPair R [] = ⊤
EachPair R (x ∷ xs) = Each (R x) xs × EachPair R xs

-- all moments, undone or in force, the newest first
abbrev pub all_moments : Pasts → List Past
all_moments p = reverse p.undone ++ p.moments

-- it holds of one of the elements
abbrev pub OneOf : {X : Type 0} → (X → Type 0) → List X → Type 0
OneOf P [] = ⊥
OneOf P (x ∷ xs) = P x ⊎ OneOf P xs

-- no object of the state has an id above these
pub record IdsUpTo (last_map last_prog : ℕ) (s : State) : Type 0 where
  pub maps : (id : ℕ) → IsTrue (map.contains_key s.maps id) → id ≤ last_map
  pub progs : (id : ℕ) → IsTrue (map.contains_key s.progs id) → id ≤ last_prog

-- boxes by id tell of each map of the state what it was made with
abbrev pub Tells : ById Make → State → Type 0
Tells makes s = (id : ℕ) (make : Make) → map.get (makes_in s) id ≡ Some make → map.get makes id ≡ Some make

-- boxes by id are those of the maps of these states: each map has its box, and each box is a map's
pub record AreBoxesOf (makes : ById Make) (states : List State) : Type 0 where
  pub has_box : Each (Tells makes) states
  pub has_map : (id : ℕ) (make : Make) → map.get makes id ≡ Some make → OneOf (λ s. map.get (makes_in s) id ≡ Some make) states

-- a list in force in the order of its serials, none of them above the last
abbrev pub IsInOrder : ℕ → List Entry → Type 0
IsInOrder last es = EachPair (λ (earlier later : Entry). earlier.serial < later.serial) es × Each (λ (e : Entry). e.serial ≤ last) es

-- a moment: its state is what its list in force makes of the base, and nothing is above the last that was given
pub record IsWellMoment (b : PlainBook) (m : Past) : Type 0 where
  pub replayed : replay b.line.base m.force ≡ Ok m.state
  pub in_order : IsInOrder b.last_serial m.force
  pub given : m.serial ≤ b.last_serial
  pub ids : IdsUpTo b.last_map b.last_prog m.state

-- the list in force of a moment of this serial, after another list: one entry more under the serial, or all but the one
-- that it took out
abbrev pub ForceFollows : ℕ → Option ℕ → List Entry → List Entry → Type 0
ForceFollows serial None before force = (e : Entry) × (e.serial ≡ serial) × (force ≡ before ++ e ∷ [])
ForceFollows serial (Some out) before force = IsTrue (is_in_force out before) × (force ≡ without out before)

abbrev pub FollowsFrom : List Entry → Past → Type 0
FollowsFrom before m = ForceFollows m.serial m.out before m.force

-- each moment follows from the one before it, and the first from the base, on which no change is in force
abbrev pub EachFollows : List Past → Type 0
EachFollows [] = ⊤
EachFollows (m ∷ ms) = FollowsFrom (newest_force ms) m × EachFollows ms

-- the base is settled; moments are well, follow from each other and rise in serials, each of which was given to one, that of
-- a moment that has joined the base too; an id stands for one box in all of them; and a mark stands at no more moments than
-- are in force
pub record IsWellBook (b : PlainBook) : Type 0 where
  pub base : IdsUpTo b.last_map b.last_prog b.line.base
  pub settled : IsSettled b.line.base
  pub moments : Each (IsWellMoment b) (all_moments b.line)
  pub follow : EachFollows (all_moments b.line)
  pub rising : EachPair (λ (newer older : Past). older.serial < newer.serial) (all_moments b.line)
  pub serials : b.gone + length (all_moments b.line) ≤ b.last_serial
  pub boxes : AreBoxesOf (makes_of (kept_states b.line)) (kept_states b.line)
  pub marks : Each (λ mark. mark.moments ≤ length b.line.moments) b.marks
