-- Attributes by id that the maps of a book have through a list of events, and what was verified against them.
use Rattle.std.specs.Prelude.{◌≡◌, ⊤, ℕ, List, ◌++◌, Option, Some, Ok}
use Rattle.std.specs.FinMap as map
use Rattle.bt_mapkind.specs.declared.attr.MapAttr.{MapAttr}
use Rattle.host_state.specs.declared.change.Change.{Change}
use Rattle.host_state.specs.declared.change.Change.TheVariants.{Load}
use Rattle.host_state.specs.State.{HostMap, HostProg, State}
use Rattle.bt_interp.specs.Known.{AreMaps, TellsOf}
use Rattle.journal_model.specs.declared.limits.Limits.{Limits}
use Rattle.journal_model.specs.Replay.{Entry}
use Rattle.journal_model.specs.Plain.{Past}
use Rattle.journal_model.specs.Book.{PlainBook, state_of, opened}
use Rattle.journal_model.specs.Run.{PlainEvent, PlainAnswer, Record, Started, Served, Given, event_of, book_after, answers_of}
use Rattle.journal_model.specs.Well.{Each, all_moments, IsWellBook}

-- each map of the state has these attributes
abbrev pub HaveAttributes : (ℕ → Option MapAttr) → State → Type 0
HaveAttributes maps s = (id : ℕ) (m : HostMap) → map.get s.maps id ≡ Some m → maps id ≡ Some m.attr

-- ---- programs that were verified against these maps
-- each program of a state
abbrev pub ProgsKnow : (ℕ → Option MapAttr) → State → Type 0
ProgsKnow maps s = (id : ℕ) (p : HostProg) → map.get s.progs id ≡ Some p → AreMaps maps p.code.maps

-- the program that a change loads, if it is a load
abbrev pub LoadKnows : (ℕ → Option MapAttr) → Change → Type 0
LoadKnows maps (Load id code name path) = AreMaps maps code.maps
LoadKnows maps _ = ⊤

-- each program of a book: those of its base, and those that its moments load, undone or in force
pub record BookKnows (maps : ℕ → Option MapAttr) (b : PlainBook) : Type 0 where
  pub base : ProgsKnow maps b.line.base
  pub moments : Each (λ (m : Past). Each (λ (e : Entry). LoadKnows maps e.change) m.force) (all_moments b.line)

-- the program that an event loads
abbrev pub EventKnows : (ℕ → Option MapAttr) → PlainEvent → Type 0
EventKnows maps (Record change blank) = LoadKnows maps change
EventKnows maps _ = ⊤

-- the program that a frame is given to run; and what a program's access is told
abbrev pub AnswerKnows : (ℕ → Option MapAttr) → PlainAnswer → Type 0
AnswerKnows maps (Started (Ok (Some (program, ifindex)))) = AreMaps maps program.code.maps
AnswerKnows maps (Served reply) = TellsOf maps reply
AnswerKnows maps _ = ⊤

-- ---- lists of events
-- attributes by id for a list of events
pub record KnowsItsMaps (b : PlainBook) (events : List Given) : Type 0 where
  pub maps : ℕ → Option MapAttr
  -- the maps of each book on the way have them
  pub attributes : (before after : List Given) → events ≡ before ++ after → HaveAttributes maps (state_of (book_after b before))
  -- and if each program was verified against them, the answers tell of no others
  pub answers : BookKnows maps b → Each (λ (given : Given). EventKnows maps (event_of given)) events → Each (AnswerKnows maps) (answers_of b events)

abbrev pub RunsOnKnownMaps : PlainBook → List Given → Type 0
RunsOnKnownMaps b events = IsWellBook b → KnowsItsMaps b events

-- each program of a new book was verified against these maps
abbrev pub BeginsKnowing : List (List ℕ) → Limits → PlainBook → (ℕ → Option MapAttr) → Type 0
BeginsKnowing devices limits b maps = opened devices limits ≡ Ok b → BookKnows maps b
