-- Why a world refuses a change is why a timeline does.
use Rattle.std.proofs.Common.{◌≡◌, sym, ◌∙◌, ap}
use Rattle.std.specs.FinMap as map
use Rattle.std.specs.FinSet as set
use Rattle.bt_objects.specs.ById.{ById}
use Rattle.host_state.specs.World.{Ready, WorldView}
use Rattle.host_state.specs.Act.{act}
use Rattle.host_undoing.specs.Answers.{HasBlank, IsReason}
use Rattle.host_state.specs.declared.change.Change.{Change}
use Rattle.host_state.specs.declared.change.Change.TheVariants.{Create}
use Rattle.host_state.specs.declared.reply.Refusal.{Refusal}
use Rattle.host_state.specs.declared.reply.Refusal.TheVariants.{Errno, NoMemory, WrongBlank, JournalFull, BudgetFull, SerialsSpent, IdsSpent}
use Rattle.journal_model.specs.Plain.{now}
use Rattle.bt_objects.specs.declared.make.Make.{Make}
use Rattle.journal_moments.specs.View.{LineView}
use Rattle.journal_timeline.specs.Steps.{IsWhy}

pub same_blank : (old new : Ready) (change : Change) → new.makes ≡ old.makes → HasBlank old change → HasBlank new change
same_blank old new (Create id attr charge name path template) e h = ap (λ (m : ById Make). map.get m id) e ∙ h
same_blank old new _ e h = tt

pub reason_why : (w : WorldView) (line : LineView) (change : Change) (refusal : Refusal) → line.makes ≡ w.ready.makes → now line.pasts ≡ w.state → IsReason w change refusal → IsWhy line change refusal
reason_why w line change (Errno errno) m s h = (same_blank w.ready (record { makes = line.makes; progs = set.empty; room = set.empty }) change m h.0, ap (λ t. act t change) s ∙ h.1)
reason_why w line change NoMemory m s h = h
reason_why w line change WrongBlank m s h = λ has. h (same_blank (record { makes = line.makes; progs = set.empty; room = set.empty }) w.ready change (sym m) has)
reason_why w line change JournalFull m s h = h
reason_why w line change BudgetFull m s h = h
reason_why w line change SerialsSpent m s h = h
reason_why w line change IdsSpent m s h = h
