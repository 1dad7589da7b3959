-- A book from which one change is being taken out.
use Rattle.std.specs.Prelude.{◌≡◌, ◌⊎◌, ℕ, true, false, if◌then◌else◌, List, [], ◌++◌, IsTrue, Some, None, Result, Ok, Err, refl}
use Rattle.std.specs.Coded.{Coded, code_by, coded×, coded_ℕ}
use Rattle.std.specs.FinMap as map
use Rattle.bt_objects.specs.declared.make.Make.{Make}
use Rattle.host_state.specs.State.{State}
use Rattle.host_state.specs.World.{makes_in}
use Rattle.journal_model.specs.declared.faults.WithoutFault.{WithoutFault}
use Rattle.journal_model.specs.declared.faults.WithoutFault.TheVariants.{NoMemory}
use Rattle.journal_model.specs.Replay.{Entry, replay}
use Rattle.journal_model.specs.Plain.{now, newest_force}
use Rattle.journal_model.specs.Book.{PlainBook, is_full}
use Rattle.journal_model.specs.Window.{can_fold, is_first}
use Rattle.journal_model.specs.Told.{prog_told}
use Rattle.journal_model.specs.Well.{Each, IsInOrder}
use Rattle.journal_model.specs.Without.{without_fault}
use Rattle.journal_model.specs.Force.{is_in_force, without}
use Rattle.bt_journal.specs.BookView.{BookView, book_code}
use Rattle.journal_keeping.specs.Staged.{Staged, staged_code, HasBlankIn}

-- the book as it was, the stage of its timeline, and the units of work that were done when it began
pub record BookStage : Type 0 where
  pub plain : PlainBook
  pub staged : Staged
  pub begun : ℕ

abbrev pub stage_code : Coded BookStage
stage_code =
    code_by (PlainBook × (Staged × ℕ)) (coded× book_code (coded× staged_code coded_ℕ)) (λ s. (s.plain, (s.staged, s.begun)))
    (λ p. record { plain = p.0; staged = p.1.0; begun = p.1.1 }) (λ _. refl)

-- a stage begins, with nothing turned back and no call made: the changes in place are in the order of their serials, and the
-- base with them done again is the state; or why not, with the book as it was
abbrev pub Begins : BookView → ℕ → Result BookStage (BookView × WithoutFault) → Type 0
Begins b serial (Ok stage) =
    (without_fault b.plain serial ≡ None)
    × (stage.plain ≡ b.plain)
    × (stage.begun ≡ b.work)
    × (stage.staged.line.pasts ≡ b.plain.line)
    × (stage.staged.serial ≡ serial)
    × (stage.staged.in_place ≡ newest_force b.plain.line.moments)
    × (stage.staged.left ≡ [])
    × (stage.staged.out ≡ false)
    × (stage.staged.state ≡ now b.plain.line)
    × IsInOrder b.plain.last_serial stage.staged.in_place
    × (replay b.plain.line.base stage.staged.in_place ≡ Ok stage.staged.state)
    × (stage.staged.line.work ≡ b.work)
    × (stage.staged.to_restore ≡ 0)
Begins b serial (Err back) = (back.0 ≡ b) × ((back.1 ≡ NoMemory) ⊎ (without_fault b.plain serial ≡ Some back.1))

-- a state, and what is still to be done again, have no other objects than the whole
pub record IsPart (whole part : State) (left : List Entry) : Type 0 where
  pub maps : (id : ℕ) (make : Make) → map.get (makes_in part) id ≡ Some make → map.get (makes_in whole) id ≡ Some make
  pub progs : (id : ℕ) → IsTrue (map.contains_key part.progs id) → IsTrue (map.contains_key whole.progs id)
  pub boxes_left : Each (λ (e : Entry). HasBlankIn (makes_in whole) e.change) left
  pub progs_left : Each (λ (e : Entry). (id : ℕ) → prog_told e.reply ≡ Some id → IsTrue (map.contains_key whole.progs id)) left

-- what is in place and what is left are the changes in force, without the one once it is out, which is among them
pub record IsRest (s : Staged) : Type 0 where
  pub among : IsTrue (is_in_force s.serial (newest_force s.line.pasts.moments))
  pub rest : s.in_place ++ s.left ≡ (if s.out then without s.serial (newest_force s.line.pasts.moments) else newest_force s.line.pasts.moments)

-- if as many moments are in force as may be, the oldest can join the base, and its change is not that of the serial
abbrev pub HasRoomWithout : PlainBook → ℕ → Type 0
HasRoomWithout b serial = is_full b ≡ true → (can_fold b.line ≡ true) × (is_first serial b.line ≡ false)
