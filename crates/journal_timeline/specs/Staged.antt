-- A timeline from which one change is being taken out.
use Rattle.std.specs.Prelude.{◌≡◌, ℕ, Bool, true, false, ◌==◌, List, [], ◌∷◌, ◌++◌, refl, if◌then◌else◌, Result, Ok, Err}
use Rattle.std.specs.Coded.{Coded, code_by, coded×, coded_ℕ, coded_bool, coded_list}
use Rattle.std.specs.FinSet as set
use Rattle.bt_objects.specs.declared.make.Make.{Make}
use Rattle.host_state.specs.declared.change.Change.{Change}
use Rattle.host_undoing.specs.Answers.{HasBlank}
use Rattle.bt_objects.specs.ById.{ById}
use Rattle.journal_model.specs.Well.{Each}
use Rattle.host_state.specs.State.{State}
use Rattle.host_state.specs.World.{makes_in}
use Rattle.host_state.proofs.Codes.{state_code}
use Rattle.host_state.specs.Act.{act}
use Rattle.journal_model.specs.Replay.{Entry, replay, as_before}
use Rattle.journal_model.specs.Plain.{now, newest_force}
use Rattle.journal_moments.specs.View.{LineView, entry_code, line_code}
use Rattle.journal_timeline.specs.declared.stage.AgainFault.{AgainFault}
use Rattle.journal_timeline.specs.declared.stage.AgainFault.TheVariants.{Differs, NoMemory}

-- the timeline as it was, with the work done by now; the serial to take out; the changes in place; those turned back that
-- are still to be done again; whether the one is out; the state; and how many calls it takes to put all back
pub record Staged : Type 0 where
  pub line : LineView
  pub serial : ℕ
  pub in_place : List Entry
  pub left : List Entry
  pub out : Bool
  pub state : State
  pub to_restore : ℕ

abbrev pub staged_code : Coded Staged
staged_code =
    code_by (LineView × (ℕ × (List Entry × (List Entry × (Bool × (State × ℕ))))))
    (coded× line_code (coded× coded_ℕ (coded× (coded_list entry_code) (coded× (coded_list entry_code) (coded× coded_bool (coded× state_code coded_ℕ))))))
    (λ s. (s.line, (s.serial, (s.in_place, (s.left, (s.out, (s.state, s.to_restore)))))))
    (λ p. record { line = p.0; serial = p.1.0; in_place = p.1.1.0; left = p.1.1.1.0; out = p.1.1.1.1.0; state = p.1.1.1.1.1.0; to_restore = p.1.1.1.1.1.1 }) (λ _. refl)

-- nothing is turned back yet
abbrev pub staged : LineView → ℕ → Staged
staged line serial = record { line = line; serial = serial; in_place = newest_force line.pasts.moments; left = []; out = false; state = now line.pasts; to_restore = 0 }

-- the same change is being taken out of the same timeline
pub record SameLine (old new : Staged) : Type 0 where
  pub pasts : new.line.pasts ≡ old.line.pasts
  pub makes : new.line.makes ≡ old.line.makes
  pub serial : new.serial ≡ old.serial

-- the last change in place is turned back, and this tells whether it is the one, which drops out
pub record TurnsBack (old : Staged) (is_it : Bool) (new : Staged) : Type 0 where
  pub same : SameLine old new
  pub last : (e : Entry) × (old.in_place ≡ new.in_place ++ e ∷ []) × (is_it ≡ (e.serial == old.serial)) × (new.left ≡ (if is_it then old.left else e ∷ old.left))
  pub out : new.out ≡ is_it
  pub acts : as_before last.0 (act new.state last.0.change) ≡ Ok old.state
  pub state : replay new.line.pasts.base new.in_place ≡ Ok new.state

-- the one is taken out alone, and the other changes in place lead to the state, in which no object came or went
pub record TakesOutAlone (old new : Staged) : Type 0 where
  pub same : SameLine old new
  pub one : (before : List Entry) × (e : Entry) × (later : List Entry) × (old.in_place ≡ before ++ e ∷ later) × (e.serial ≡ old.serial) × (new.in_place ≡ before ++ later)
  pub left : new.left ≡ []
  pub out : new.out ≡ true
  pub state : replay new.line.pasts.base new.in_place ≡ Ok new.state
  pub makes : makes_in new.state ≡ makes_in old.state
  pub progs : new.state.progs ≡ old.state.progs
  pub to_restore : new.to_restore ≡ 1

-- the next change is done again, and answers as it did
pub record DoesNext (old new : Staged) : Type 0 where
  pub same : SameLine old new
  pub out : new.out ≡ old.out
  pub next : (e : Entry) × (old.left ≡ e ∷ new.left) × (new.in_place ≡ old.in_place ++ e ∷ []) × (as_before e (act old.state e.change) ≡ Ok new.state)

-- nothing is moved
pub record StaysStaged (old new : Staged) : Type 0 where
  pub same : SameLine old new
  pub in_place : new.in_place ≡ old.in_place
  pub left : new.left ≡ old.left
  pub out : new.out ≡ old.out
  pub state : new.state ≡ old.state

-- the next change is done again; or it answers otherwise, or an allocation fails, and nothing is moved
abbrev pub GoesOn : Staged → Result (Unit {0}) AgainFault → Staged → Type 0
GoesOn old (Ok done) new = DoesNext old new
GoesOn old (Err (Differs serial)) new = ((e : Entry) × (rest : List Entry) × (old.left ≡ e ∷ rest) × (as_before e (act old.state e.change) ≡ Err serial)) × StaysStaged old new
GoesOn old (Err NoMemory) new = StaysStaged old new

-- each create that is to be done again has its box
abbrev pub HasBlankIn : ById Make → Change → Type 0
HasBlankIn makes change = HasBlank (record { makes = makes; progs = set.empty; room = set.empty }) change

abbrev pub HasBoxesLeft : Staged → Type 0
HasBoxesLeft s = Each (λ (e : Entry). HasBlankIn s.line.makes e.change) s.left
