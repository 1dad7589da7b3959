-- Programs that the console lets in over the live maps of a book, and what they were verified against.
use Rattle.std.specs.Prelude.{◌≡◌, ⊤, ℕ, List, ◌++◌, Option, Ok}
use Rattle.bt_mapkind.specs.declared.attr.MapAttr.{MapAttr}
use Rattle.bt_verify.specs.Verified.{Checked}
use Rattle.bt_interp.specs.Known.{AreMaps}
use Rattle.host_state.specs.declared.change.Change.TheVariants.{Load}
use Rattle.journal_model.specs.declared.limits.Limits.{Limits}
use Rattle.journal_model.specs.Book.{PlainBook, state_of, opened}
use Rattle.journal_model.specs.Run.{PlainEvent, Record, Given, event_of, book_after}
use Rattle.journal_model.specs.Well.{Each}
use Rattle.console_reference.specs.Programs.{live_maps, IsLetIn}
use Rattle.journal_known_maps.specs.Known.{HaveAttributes, KnowsItsMaps}
use Rattle.bt_desk.specs.Histories.{Call, Runs}
use Rattle.thread_frame_laws.specs.Asks.{FramesAskHad}

-- if the maps of the book have these attributes
abbrev pub IsLetInOnThem : (ℕ → Option MapAttr) → PlainBook → List ℕ → Checked → Type 0
IsLetInOnThem maps b bytes code = HaveAttributes maps (state_of b) → IsLetIn (live_maps b) bytes code → AreMaps maps code.maps

-- the code was let in over the live maps of a book on the way of these events
pub record IsLetInOn (b : PlainBook) (events : List Given) (code : Checked) : Type 0 where
  pub before : List Given
  pub after : List Given
  pub way : events ≡ before ++ after
  pub bytes : List ℕ
  pub verdict : IsLetIn (live_maps (book_after b before)) bytes code

-- so was the program that an event loads
abbrev pub LoadsLetIn : PlainBook → List Given → PlainEvent → Type 0
LoadsLetIn b events (Record (Load id code name path) blank) = IsLetInOn b events code
LoadsLetIn b events _ = ⊤

-- the maps of the books of a run and of the history after it, and what the frames of that history ask of them
pub record FramesAskOfAll (b : PlainBook) (events : List Given) (history : List Call) : Type 0 where
  pub known : KnowsItsMaps b events
  pub frames : FramesAskHad known.maps history

-- a new book, any events such as those of a script, and a history of a desk with the book that they leave
abbrev pub FramesOfNewHost : List (List ℕ) → Limits → PlainBook → List Given → List Call → PlainBook → Type 0
FramesOfNewHost devices limits b script history left =
    opened devices limits ≡ Ok b → (runs : Runs (book_after b script) history left)
    → Each (λ (given : Given). LoadsLetIn b (script ++ runs.given) (event_of given)) (script ++ runs.given)
    → FramesAskOfAll b (script ++ runs.given) history
