-- How many calls of boxes it takes to undo several moments, to make a map or a program, and to do what a program asks.
use Rattle.std.proofs.Common.{◌≡◌, ◌<◌, ◌+◌, ◌-◌, ℕ, Bool, true, false, List, [], ◌∷◌, Result, Ok, Err, sym, subst, ◌∙◌, arith}
use Rattle.host_state.specs.State.{State}
use Rattle.host_state.specs.declared.change.Change.{Change}
use Rattle.host_state.specs.declared.change.Change.TheVariants.{Create, Operate, Freeze, Link, Load, Pin, Unpin, Attach, Detach}
use Rattle.bt_verify.specs.Verified.{Checked}
use Rattle.bt_objects.specs.declared.make.Make.{Make}
use Rattle.host_state.specs.Work.{CallsAtMost, walks, most_calls, after_change}
use Rattle.host_state.proofs.CallLemmas.{within_more}
use Rattle.journal_keeping.specs.Calls.{Adds, Costs, calls_refused}
use Rattle.journal_keeping.proofs.CostLemmas.{changed_once}
use Rattle.bt_journal.specs.Undone.{CallsNone}
use Rattle.bt_journal.proofs.RecordLemmas.{IsNew}

-- ---- a change that makes a map or a program
-- what is recorded of it makes no calls
pub new_calls : {A E : Type 0} (s : State) (id : ℕ) (make : Make) (change : Change) (r : Result A E) (old new : ℕ) → IsNew id make change → Costs s change r old new → CallsNone r old new
new_calls s id make (Create at attr charge name path template) (Ok done) old new is h = h
new_calls s id make (Create at attr charge name path template) (Err refusal) old new is h = h
new_calls s id make (Operate origin at op) r old new is h = absurd is
new_calls s id make (Freeze at) r old new is h = absurd is
new_calls s id make (Link at key named flag) r old new is h = absurd is
new_calls s id make (Load at code name path) r old new is h = absurd is
new_calls s id make (Pin target path) r old new is h = absurd is
new_calls s id make (Unpin path) r old new is h = absurd is
new_calls s id make (Attach prog device overwrite) r old new is h = absurd is
new_calls s id make (Detach device) r old new is h = absurd is

pub loaded_costs : {A E : Type 0} (s : State) (change : Change) (id : ℕ) (code : Checked) (name path : List ℕ) (r : Result A E) (old new : ℕ) → change ≡ Load id code name path → CallsNone r old new → Costs s change r old new
loaded_costs {A} {E} s change id code name path r old new is h = subst (λ (c : Change). Costs s c r old new) (sym is) (load r h)
  where
    load : (r : Result A E) → CallsNone r old new → Costs s (Load id code name path) r old new
    load (Ok done) h = h
    load (Err refusal) h = h

-- ---- what a program asks
-- accepted or refused, a change makes no more calls than a refused one
pub change_calls : {A E : Type 0} (s : State) (change : Change) (r : Result A E) (old new : ℕ) → Costs s change r old new → CallsAtMost (calls_refused (walks s change) (most_calls s change)) old new
change_calls s change (Ok done) old new h = accepted (walks s change) (most_calls s change) h
  where
    accepted : (walking : Bool) (most : ℕ) → Adds walking most old (after_change change old) new → CallsAtMost (calls_refused walking most) old new
    accepted false most h = within_more 1 2 old new (omega arith) (changed_once change old new h)
    accepted true most h = within_more most (most + 1) old new (omega arith) h
change_calls s change (Err refusal) old new h = h
