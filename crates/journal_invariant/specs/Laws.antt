-- The laws that hold of a book after each event: it is well, it is within its limits, and its serials and ids rise.
use Rattle.std.specs.Prelude.{◌≡◌, ◌⊎◌, ⊤, ℕ, ◌<◌, ◌≤◌, List, [], ◌∷◌, ◌++◌, length, Ok}
use Rattle.bt_objects.specs.declared.make.Make.{Make}
use Rattle.bt_objects.specs.ById.{ById}
use Rattle.host_state.specs.World.{charged_of}
use Rattle.journal_model.specs.declared.limits.Limits.{Limits}
use Rattle.journal_model.specs.Replay.{Entry}
use Rattle.journal_model.specs.Plain.{Past}
use Rattle.journal_model.specs.Book.{PlainBook, opened, kept_states, charged}
use Rattle.journal_model.specs.Run.{Given, book_after, answers_of}
use Rattle.journal_model.specs.Told.{serials_in, ids_in, progs_in}
use Rattle.journal_model.specs.Well.{Each, EachPair, OneOf, all_moments, AreBoxesOf, IsWellBook}

-- ---- well books
abbrev pub BeginsWell : List (List ℕ) → Limits → PlainBook → Type 0
BeginsWell devices limits b = opened devices limits ≡ Ok b → IsWellBook b

abbrev pub StaysWell : PlainBook → List Given → Type 0
StaysWell b events = IsWellBook b → IsWellBook (book_after b events)

-- ---- limits
-- the limits stand, and the moments, in force or undone, the last serial and the last ids that were given, and the charges of
-- all boxes are within them
pub record IsWithinLimits (limits : Limits) (b : PlainBook) : Type 0 where
  pub stand : b.limits ≡ limits
  pub moments : length (all_moments b.line) ≤ limits.journal
  pub serials : b.last_serial ≤ limits.last_serial
  pub map_ids : b.last_map ≤ limits.last_id
  pub prog_ids : b.last_prog ≤ limits.last_id
  pub charges : charged b ≤ limits.budget

abbrev pub BeginsWithinLimits : List (List ℕ) → Limits → PlainBook → Type 0
BeginsWithinLimits devices limits b = opened devices limits ≡ Ok b → IsWithinLimits limits b

abbrev pub StaysWithinLimits : Limits → PlainBook → List Given → Type 0
StaysWithinLimits limits b events = IsWellBook b → IsWithinLimits limits b → IsWithinLimits limits (book_after b events)

-- ---- charges
-- boxes that are those of the maps in the base, a moment or an undone one, by id, and so each once
pub record IsChargeOf (b : PlainBook) (charge : ℕ) : Type 0 where
  pub boxes : ById Make
  pub of_maps : AreBoxesOf boxes (kept_states b.line)
  pub sum : charge ≡ charged_of boxes

abbrev pub ChargesOnce : PlainBook → Type 0
ChargesOnce b = IsWellBook b → IsChargeOf b (charged b)

-- ---- serials and ids
-- each is above the one before it, and the first above the last that was given before
abbrev pub Rises : ℕ → List ℕ → Type 0
Rises last [] = ⊤
Rises last (n ∷ ns) = (last < n) × Rises n ns

-- the serials that a run answers (an access tells none), and the ids of its new maps and of its new programs
abbrev pub SerialsRise : PlainBook → List Given → Type 0
SerialsRise b events = Rises b.last_serial (serials_in (answers_of b events))

abbrev pub IdsRise : PlainBook → List Given → Type 0
IdsRise b events = Rises b.last_map (ids_in (answers_of b events))

abbrev pub ProgIdsRise : PlainBook → List Given → Type 0
ProgIdsRise b events = Rises b.last_prog (progs_in (answers_of b events))

-- a moment is still the old one: its serial and what it took out are the same, and so are the changes in force, but for the
-- first, which may have been made part of the base
pub record IsStill (old m : Past) : Type 0 where
  pub serial : m.serial ≡ old.serial
  pub out : m.out ≡ old.out
  pub based : List Entry
  pub force : old.force ≡ based ++ m.force

-- a moment stood in the book, or its serial is above all that the book had given
abbrev pub StoodOrIsNew : PlainBook → Past → Type 0
StoodOrIsNew b m = OneOf (λ (old : Past). IsStill old m) (all_moments b.line) ⊎ (b.last_serial < m.serial)

-- each moment of a later book, in force or undone, stood or is new; and if the first is well, the serials of the later
-- one's moments rise, none above the last that was given
pub record MomentsRise (b later : PlainBook) : Type 0 where
  pub last : b.last_serial ≤ later.last_serial
  pub moments : Each (StoodOrIsNew b) (all_moments later.line)
  pub rising : IsWellBook b → EachPair (λ (newer older : Past). older.serial < newer.serial) (all_moments later.line)
  pub given : IsWellBook b → Each (λ (m : Past). m.serial ≤ later.last_serial) (all_moments later.line)

-- so it is after all events, whatever recorded a moment: an access of a running program tells no serial, but has one
abbrev pub EventsRise : PlainBook → List Given → Type 0
EventsRise b events = MomentsRise b (book_after b events)
