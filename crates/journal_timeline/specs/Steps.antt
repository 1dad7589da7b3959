-- What recording does to a world, and to the moments.
use Rattle.std.specs.Prelude.{◌≡◌, ⊤, ℕ, List, [], ◌∷◌, ◌++◌, Result, Ok, Err}
use Rattle.std.specs.FinSet as set
use Rattle.host_state.specs.State.{State}
use Rattle.host_state.specs.World.{WorldView, SameBoxes}
use Rattle.host_state.specs.Act.{act}
use Rattle.host_undoing.specs.Exchange.{back_of, Joins}
use Rattle.host_undoing.specs.Answers.{HasBlank, IsOwn, IsReason, IsUnchanged}
use Rattle.host_apart.specs.Alike.{HasByteKey}
use Rattle.host_state.specs.declared.change.Change.{Change}
use Rattle.host_state.specs.declared.reply.Reply.{Reply}
use Rattle.host_state.specs.declared.reply.Refusal.{Refusal}
use Rattle.host_state.specs.declared.reply.Refusal.TheVariants.{Errno, NoMemory, WrongBlank, JournalFull, BudgetFull, SerialsSpent, IdsSpent}
use Rattle.journal_model.specs.Plain.{Pasts, now, appended}
use Rattle.journal_moments.specs.Line.{RetiresJust, retired_by}
use Rattle.journal_moments.specs.Recorded.{Recorded}
use Rattle.journal_moments.specs.View.{LineView}
use Rattle.journal_model.specs.Replay.{Entry, as_before}
use Rattle.journal_timeline.specs.declared.stage.AgainFault.{AgainFault}
use Rattle.journal_timeline.specs.declared.stage.AgainFault.TheVariants.{Differs, NoMemory as AgainNoMemory}

-- a change was done as `act` says, and the record of it, whose undoing is the change's own, joins the two states and lists what
-- the change retired
pub record IsDone (old : WorldView) (r : Recorded) (new : WorldView) : Type 0 where
  pub acts : act old.state r.entry.change ≡ Ok (new.state, r.entry.reply)
  pub own : IsOwn old.state r.entry.change r.undoing.part
  pub bytes : HasByteKey r.undoing.part
  pub joins : Joins new.ready old.state new.state r.undoing (back_of new.state r.undoing)
  pub retires : RetiresJust old.state new.state (retired_by r)
  pub boxes : SameBoxes old.ready new.ready

-- a change is done and a record kept, or it is refused, and nothing that shows has changed
abbrev pub Does : WorldView → ℕ → Change → Result (Reply × Recorded) Refusal → WorldView → Type 0
Does old serial change (Ok done) new =
    (done.1.entry ≡ record { serial = serial; change = change; reply = done.0 }) × IsDone old done.1 new
Does old serial change (Err refusal) new = IsReason old change refusal × IsUnchanged old new

-- a create has a box of its id with its attributes and its charge
abbrev pub HasBox : LineView → Change → Type 0
HasBox line change = HasBlank (record { makes = line.makes; progs = set.empty; room = set.empty }) change

-- why a change is not recorded
abbrev pub IsWhy : LineView → Change → Refusal → Type 0
IsWhy old change (Errno errno) = HasBox old change × (act (now old.pasts) change ≡ Err errno)
IsWhy old change NoMemory = ⊤
IsWhy old change WrongBlank = ¬ (HasBox old change)
IsWhy old change JournalFull = ⊥
IsWhy old change BudgetFull = ⊥
IsWhy old change SerialsSpent = ⊥
IsWhy old change IdsSpent = ⊥

-- a change is done as `act` says and its moment appended, or it is refused, and no moment changes
abbrev pub Appends : LineView → ℕ → Change → Result Reply Refusal → Pasts → Type 0
Appends old serial change (Ok reply) new =
    (s : State) × (act (now old.pasts) change ≡ Ok (s, reply)) × (new ≡ appended old.pasts (record { serial = serial; change = change; reply = reply }) s)
Appends old serial change (Err refusal) new = IsWhy old change refusal × (new ≡ old.pasts)

-- a change is done again, and a record of it put in place, for it answers as it did; or it answers otherwise, or an allocation
-- fails, and nothing that shows has changed
abbrev pub DoesAgain : WorldView → List Recorded → Entry → Result (Unit {0}) AgainFault → WorldView → List Recorded → Type 0
DoesAgain old rs e (Ok done) new after = (r : Recorded) × (r.entry ≡ e) × (after ≡ rs ++ r ∷ []) × IsDone old r new × (as_before e (act old.state e.change) ≡ Ok new.state)
DoesAgain old rs e (Err (Differs serial)) new after = (as_before e (act old.state e.change) ≡ Err serial) × IsUnchanged old new × (after ≡ rs)
DoesAgain old rs e (Err AgainNoMemory) new after = IsUnchanged old new × (after ≡ rs)
