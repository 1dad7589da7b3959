-- What frames ask, of the maps that a history's books have.
use Rattle.std.specs.Prelude.{⊤, ℕ, List, Contains, Option}
use Rattle.bt_mapkind.specs.declared.attr.MapAttr.{MapAttr}
use Rattle.bt_interp.specs.Known.{IsHad}
use Rattle.journal_model.specs.Book.{PlainBook}
use Rattle.journal_model.specs.Run.{PlainEvent, Serve, Given}
use Rattle.journal_model.specs.Well.{Each, IsWellBook}
use Rattle.journal_known_maps.specs.Known.{BookKnows, EventKnows, KnowsItsMaps}
use Rattle.bt_desk.specs.Histories.{Call, Runs}
use Rattle.thread_frames.specs.declared.frame.FrameIn.{FrameIn}
use Rattle.bt_workers.specs.declared.result.FrameEnd.{FrameEnd}
use Rattle.bt_workers.specs.Served.{FrameBy}

-- an access is at a map that has it
abbrev pub AsksHad : (ℕ → Option MapAttr) → PlainEvent → Type 0
AsksHad maps (Serve prog access) = IsHad maps access
AsksHad maps _ = ⊤

-- whatever frame made these calls, all of them of the history
abbrev pub FramesAskHad : (ℕ → Option MapAttr) → List Call → Type 0
FramesAskHad maps history =
    (left : ℕ) (frame : FrameIn) (calls : List Call) (end : FrameEnd) → FrameBy left frame calls end → Each (λ (call : Call). Contains history call) calls
    → Each (λ (call : Call). AsksHad maps call.event) calls

-- the maps of a history's books, and what its frames ask of them, if each program was verified against their attributes
pub record FramesAskOfThem (opened : PlainBook) (history : List Call) (given : List Given) : Type 0 where
  pub known : KnowsItsMaps opened given
  pub frames : BookKnows known.maps opened → Each (λ (call : Call). EventKnows known.maps call.event) history → FramesAskHad known.maps history

abbrev pub FramesAskWhatMapsHave : PlainBook → List Call → PlainBook → Type 0
FramesAskWhatMapsHave opened history left = IsWellBook opened → (runs : Runs opened history left) → FramesAskOfThem opened history runs.given
