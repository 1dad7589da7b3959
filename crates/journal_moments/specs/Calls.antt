-- How many calls of boxes it takes at most to record a change, to undo moments, to bring them back, and to do changes again.
use Rattle.std.specs.Prelude.{◌≡◌, ℕ, zero, suc, ◌+◌, ◌-◌, Bool, true, false, List, [], ◌∷◌, length, Option, Some, None, Result, Ok, Err}
use Rattle.host_state.specs.declared.change.Change.{Change}
use Rattle.host_state.specs.State.{State}
use Rattle.host_state.specs.Work.{CallsAtMost, walks, most_calls, after_change}
use Rattle.journal_model.specs.Replay.{Entry}
use Rattle.journal_model.specs.Plain.{Past, newest_force}
use Rattle.journal_record.specs.Recorded.{Recorded}
use Rattle.journal_record.specs.After.{after}
use Rattle.journal_moments.specs.MomentView.{MomentView}

-- a change takes one call, a taking out, which has a serial, one for each change that it exchanges
abbrev pub calls_by : Option ℕ → ℕ → ℕ
calls_by None exchanged = 1
calls_by (Some out) exchanged = exchanged

-- the exchange of a moment with these records
abbrev pub calls_to_swap : List Recorded → MomentView → ℕ
calls_to_swap rs m = calls_by m.out ((length rs - (m.at + m.stays)) + length m.other)

-- a moment is undone, or brought back, above these changes in force
abbrev pub calls_of : List Entry → Past → ℕ
calls_of below m = calls_by m.out (length below + length m.force)

-- so many of these moments are undone, the newest first
abbrev pub calls_back : ℕ → List Past → ℕ
calls_back zero ms = 0
calls_back (suc n) [] = 0
calls_back (suc n) (m ∷ ms) = calls_of (newest_force ms) m + calls_back n ms

-- so many of these moments are brought back above changes in force, the next one first
abbrev pub calls_forth : ℕ → List Entry → List Past → ℕ
calls_forth zero below ms = 0
calls_forth (suc n) below [] = 0
calls_forth (suc n) below (m ∷ ms) = calls_of below m + calls_forth n m.force ms

-- what an accepted change adds: what its operation takes, and if it walks over the links no more than the walk
abbrev pub Adds : Bool → ℕ → ℕ → ℕ → ℕ → Type 0
Adds false most old all new = new ≡ all
Adds true most old all new = CallsAtMost most old new

-- an accepted one makes one call at most, or those of its walk
abbrev pub calls_accepted : Bool → ℕ → ℕ
calls_accepted false most = 1
calls_accepted true most = most

-- a refused one has made no more calls, and if no memory was left for what is kept of it, one to take it back
abbrev pub calls_refused : Bool → ℕ → ℕ
calls_refused false most = 2
calls_refused true most = most + 1

-- what recording a change may add to the work
abbrev pub Costs : {A E : Type 0} → State → Change → Result A E → ℕ → ℕ → Type 0
Costs s change (Ok done) old new = Adds (walks s change) (most_calls s change) old (after_change change old) new
Costs s change (Err refusal) old new = CallsAtMost (calls_refused (walks s change) (most_calls s change)) old new

-- these are done from a state on, one after the other, and accepted
abbrev pub calls_again : State → List Entry → ℕ
calls_again s [] = 0
calls_again s (e ∷ es) = calls_accepted (walks s e.change) (most_calls s e.change) + calls_again (after s e) es
