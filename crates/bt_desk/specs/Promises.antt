-- What is promised of a desk, in the words of its histories.
use Rattle.std.specs.Prelude.{◌≡◌, ◌≢◌, ℕ, List, ◌∷◌, ◌++◌, is_some, IsTrue, Ok}
use Rattle.bt_mapkind.specs.Seen.{Seen}
use Rattle.journal_model.specs.Book.{PlainBook}
use Rattle.journal_laws.specs.Headline.{TakesOneOut, KeepsItsWord}
use Rattle.journal_laws.specs.Laws.{ComesBack, given_up_in}
use Rattle.journal_model.specs.Marks.{moments_at}
use Rattle.journal_model.specs.Run.{Mark, book_after}
use Rattle.journal_model.specs.Well.{Each, IsWellBook}
use Rattle.bt_without.specs.Events.{IsRun}
use Rattle.bt_without.specs.declared.events.Answer.{Answer}
use Rattle.bt_without.specs.declared.events.Answer.TheVariants.{Marked}
use Rattle.bt_without.specs.declared.events.Event.{Event}
use Rattle.thread_lock.specs.History.{entry}
use Rattle.bt_desk.specs.Histories.{Call, Runs}

-- the book at a mark, to which undoing leads back from a later one, less what was given up by the calls after it
pub record ReturnsFrom (opened : PlainBook) (before : List Call) (by : ℕ) (name : List ℕ) (after : List Call) (left : PlainBook) : Type 0 where
  pub at_mark : PlainBook
  pub runs : Runs opened before at_mark
  pub behind : Runs at_mark (entry by (Mark name) (Marked (Ok tt)) ∷ after) left
  pub back : ComesBack name (given_up_in at_mark behind.given) at_mark left

abbrev pub ReturnsToMarkOfAny : PlainBook → List Call → ℕ → List ℕ → List Call → PlainBook → Type 0
ReturnsToMarkOfAny opened before by name after left =
    Runs opened (before ++ entry by (Mark name) (Marked (Ok tt)) ∷ after) left → Each (λ (call : Call). call.event ≢ Mark name) after
    → IsTrue (is_some (moments_at name left.marks)) → ReturnsFrom opened before by name after left

abbrev pub TakesOneOutBehind : PlainBook → List Call → PlainBook → ℕ → Type 0
TakesOneOutBehind opened history left serial = IsWellBook opened → Runs opened history left → TakesOneOut left serial

-- all that is promised of a journal, of the events of a history, each with a failed allocation in it or none
abbrev pub KeepsItsWordBehind : PlainBook → List Call → PlainBook → Type 0
KeepsItsWordBehind opened history left =
    IsWellBook opened → (runs : Runs opened history left) → KeepsItsWord opened runs.given × (left ≡ book_after opened runs.given)

-- and of a list of events
abbrev pub RunKeepsItsWord : {K : Type 0} → (K → Seen) → PlainBook → List (Event K) → List Answer → PlainBook → Type 0
RunKeepsItsWord seen old events answers new =
    IsWellBook old → (ran : IsRun seen old events answers new) → KeepsItsWord old ran.given × (new ≡ book_after old ran.given)
