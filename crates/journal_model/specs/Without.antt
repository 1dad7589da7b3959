-- Taking one change out of those in force.
use Rattle.std.specs.Prelude.{ℕ, ◌+◌, not, ◌&&◌, ◌||◌, List, [], ◌∷◌, nat_le, if◌then◌else◌, Result, Ok, Err, Option, Some, None}
use Rattle.host_state.specs.State.{State}
use Rattle.journal_model.specs.declared.faults.WithoutFault.{WithoutFault}
use Rattle.journal_model.specs.declared.faults.WithoutFault.TheVariants.{NotInForce, SerialsSpent, JournalFull, DependsOn}
use Rattle.journal_model.specs.Replay.{Entry, replay}
use Rattle.journal_model.specs.Force.{is_in_force, without}
use Rattle.journal_model.specs.Plain.{Pasts, newest_force}
use Rattle.journal_model.specs.Window.{can_fold, is_first}
use Rattle.journal_model.specs.Book.{PlainBook, given_up_by, is_full, within_window}

-- why a change is not taken out, before anything is tried: the first of these. A taking out is no change in force
abbrev pub without_fault : PlainBook → ℕ → Option WithoutFault
without_fault b serial =
    if not (is_in_force serial (newest_force b.line.moments)) then Some NotInForce else
    if nat_le b.limits.last_serial b.last_serial then Some SerialsSpent else
    if is_full b && (is_first serial b.line || not (can_fold b.line)) then Some JournalFull else
    None

-- the moments with a taking out, and the undone ones given up
abbrev pub with_taking_out : Pasts → ℕ → ℕ → List Entry → State → Pasts
with_taking_out p serial out force s = record {
  base = p.base;
  moments = record { serial = serial; out = Some out; force = force; state = s } ∷ p.moments;
  undone = [];
}

-- the book with the moment of a taking out
abbrev pub with_taken_out : PlainBook → ℕ → List Entry → State → PlainBook
with_taken_out b serial force s = record b {
  line = with_taking_out b.line (b.last_serial + 1) serial force s;
  gave_up = given_up_by (b.last_serial + 1) b.line.undone b.gave_up;
  last_serial = b.last_serial + 1;
}

-- the others are done again from the base, each to answer as it did
abbrev pub taken_out_as : PlainBook → ℕ → List Entry → Result State ℕ → PlainBook × Result ℕ WithoutFault
taken_out_as b serial force (Err first) = (b, Err (DependsOn first))
taken_out_as b serial force (Ok s) = (within_window (with_taken_out b serial force s), Ok (b.last_serial + 1))

abbrev pub taken_out_unless : Option WithoutFault → PlainBook → ℕ → PlainBook × Result ℕ WithoutFault
taken_out_unless (Some fault) b serial = (b, Err fault)
taken_out_unless None b serial =
    let force = without serial (newest_force b.line.moments) in
    taken_out_as b serial force (replay b.line.base force)

-- a change is taken out under the next serial, if all others answer without it as they did; else it is told which is the
-- first that does not
abbrev pub taken_out : PlainBook → ℕ → PlainBook × Result ℕ WithoutFault
taken_out b serial = taken_out_unless (without_fault b serial) b serial
