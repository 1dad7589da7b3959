-- The moments of a book, each with all its state.
use Rattle.std.specs.Prelude.{ℕ, ◌-◌, List, [], ◌∷◌, ◌++◌, length, take, drop, reverse, Option, None}
use Rattle.host_state.specs.State.{State}
use Rattle.journal_model.specs.Replay.{Entry}

-- a moment: its serial, the serial that it took out if it is a taking out, the list in force and the state
pub record Past : Type 0 where
  pub serial : ℕ
  pub out : Option ℕ
  pub force : List Entry
  pub state : State

-- the base, the moments, the newest first, and the undone ones, the next to redo first
pub record Pasts : Type 0 where
  pub base : State
  pub moments : List Past
  pub undone : List Past

abbrev pub newest_state : State → List Past → State
newest_state base [] = base
newest_state base (m ∷ ms) = m.state

abbrev pub newest_force : List Past → List Entry
newest_force [] = []
newest_force (m ∷ ms) = m.force

-- the state as it is now
abbrev pub now : Pasts → State
now p = newest_state p.base p.moments

-- the newest moment is undone
abbrev pub one_back : Pasts → Pasts
one_back p = record { base = p.base; moments = drop 1 p.moments; undone = take 1 p.moments ++ p.undone }

-- the first undone moment comes back
abbrev pub one_forth : Pasts → Pasts
one_forth p = record { base = p.base; moments = take 1 p.undone ++ p.moments; undone = drop 1 p.undone }

-- the moments past this number are undone
abbrev pub cut : ℕ → Pasts → Pasts
cut count p =
    let past = length p.moments - count in
    record { base = p.base; moments = drop past p.moments; undone = reverse (take past p.moments) ++ p.undone }

-- a recorded change: its moment is appended, and the undone ones are given up
abbrev pub appended : Pasts → Entry → State → Pasts
appended p e s = record {
  base = p.base;
  moments = record { serial = e.serial; out = None; force = newest_force p.moments ++ e ∷ []; state = s } ∷ p.moments;
  undone = [];
}
