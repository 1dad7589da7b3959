-- Every event keeps a book well.
use Rattle.std.proofs.Common.{◌-◌, Bool, List, [], ◌∷◌, length}
use Rattle.journal_model.specs.Book.{PlainBook}
use Rattle.journal_model.specs.Run.{PlainEvent, PlainAnswer, Given, bookstep}
use Rattle.journal_model.specs.Well.{IsWellBook}
use Rattle.journal_invariant.specs.Laws.{StaysWell}
use Rattle.journal_model.proofs.Cases.{step_cases}
use Rattle.journal_invariant.proofs.Staying.{low_mark, marked_well, undone_well, redone_well}
use Rattle.journal_invariant.proofs.Forgetting.{forgotten_well}
use Rattle.journal_invariant.proofs.Windowed.{recorded_stays, taken_stays}

pub step_stays : (refused : Bool) (b : PlainBook) (event : PlainEvent) → IsWellBook b → IsWellBook (bookstep refused b event).0
step_stays refused b event w =
    let P : PlainBook × PlainAnswer → Type 0 = λ p. IsWellBook p.0 in
    step_cases P refused b event (record {
      stays = λ answer s i p. w;
      records = λ change s reply n acts room. recorded_stays b w change s reply n acts room;
      serves = λ change s reply n acts maps progs room. recorded_stays b w change s reply n acts room;
      marks = λ name is none. marked_well b w name;
      undoes = λ count. undone_well b w count;
      undoes_last = λ any. undone_well b w (length b.line.moments - 1);
      redoes = λ any. redone_well b w;
      takes_out = λ serial s there replayed room. taken_stays b w serial s there replayed room;
      forgets = λ name count is found none. forgotten_well b w count none (low_mark name (length b.line.moments) count b.marks w.marks found);
    })

pub stays_well : (b : PlainBook) (events : List Given) → StaysWell b events
stays_well b [] w = w
stays_well b (given ∷ rest) w = stays_well (bookstep given.0 b given.1).0 rest (step_stays given.0 b given.1 w)
