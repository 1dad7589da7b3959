-- Objects that have retired, and the records of the changes that retired them.
use Rattle.std.specs.Prelude.{◌≡◌, ℕ, Bool, true, false, not, List, length, nat_lt}
use Rattle.std.specs.List.{list_any}
use Rattle.std.specs.FinMap as map
use Rattle.bt_roots.specs.declared.target.Target.{Target}
use Rattle.bt_roots.specs.declared.target.Target.TheVariants.{Map, Prog}
use Rattle.host_state.specs.State.{State}
use Rattle.host_state.specs.Settled.{is_listed}
use Rattle.journal_model.specs.Rebase.{is_retired_map, is_retired_prog}
use Rattle.journal_record.specs.Recorded.{Recorded}
use Rattle.journal_record.specs.Records.{retired_by}

-- whether an object is there and has retired
abbrev pub has_retired : State → Target → Bool
has_retired s (Map id) = is_retired_map (map.get s.maps id)
has_retired s (Prog id) = is_retired_prog (map.get s.progs id)

-- in a state no object has retired
abbrev pub NoneRetired : State → Type 0
NoneRetired s = (target : Target) → has_retired s target ≡ false

-- each object of a state, live or retired, is there in another
pub record StayIn (s t : State) : Type 0 where
  pub maps : (id : ℕ) → map.contains_key s.maps id ≡ true → map.contains_key t.maps id ≡ true
  pub progs : (id : ℕ) → map.contains_key s.progs id ≡ true → map.contains_key t.progs id ≡ true

-- whether one of these records is of a change that retired the object
abbrev pub is_retired_by : List Recorded → Target → Bool
is_retired_by rs target = list_any (λ r. is_listed (retired_by r) target) rs

-- none of these records is of a change that retired something
abbrev pub retires_some : Recorded → Bool
retires_some r = nat_lt 0 (length (retired_by r))

abbrev pub retire_none : List Recorded → Bool
retire_none rs = not (list_any retires_some rs)
