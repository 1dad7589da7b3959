-- A move of the journal records no change.
use Rattle.std.proofs.Common.{◌≡◌, ℕ, ◌-◌, ◌≤◌, ◌==◌, Bool, true, false, not, cond, List, [], length, map as each, refl, sym, ap, subst}
use Rattle.journal_model.specs.Replay.{Entry}
use Rattle.journal_model.specs.Plain.{newest_force}
use Rattle.journal_model.specs.Window.{kept_line}
use Rattle.journal_model.specs.Force.{without}
use Rattle.journal_model.specs.Without.{with_taken_out}
use Rattle.journal_model.specs.Forget.{based_at}
use Rattle.journal_model.specs.Book.{PlainBook, force_of, is_full, folded, within_window, with_room, with_mark, back_to, brought_back}
use Rattle.journal_model.specs.Run.{PlainEvent, PlainAnswer, bookstep}
use Rattle.journal_model.specs.Well.{Each, IsWellBook}
use Rattle.journal_model.proofs.Cases.{step_cases}
use Rattle.journal_model.proofs.Lists.{Each-filter}
use Rattle.journal_invariant.proofs.Staying.{low_mark, marked_well, undone_well, redone_well}
use Rattle.journal_invariant.proofs.Forgetting.{forgotten_well}
use Rattle.journal_laws.proofs.Grown.{IsTakenFrom, taken_from}
use Rattle.kept_book.specs.Noted.{kept_of, changes_since, accepts_move}
use Rattle.kept_book.proofs.SinceLemmas.{none_above}
use Rattle.kept_book.proofs.NewestLemmas.{all_given, none_since}

same_last : (b : PlainBook) → (with_room b).last_serial ≡ b.last_serial
same_last b = by (is_full b)
  where
    by : (t : Bool) → (let c : PlainBook = cond t (folded (record b { line = kept_line b.line })) b in c.last_serial) ≡ b.last_serial
    by true = refl
    by false = refl

none_of : (last : ℕ) (es : List Entry) (c : PlainBook) → force_of c ≡ es → Each (λ (e : Entry). e.serial ≤ last) es → changes_since last c ≡ []
none_of last es c is h = ap (each kept_of) (none_above last (force_of c) (subst (Each (λ (e : Entry). e.serial ≤ last)) (sym is) h))

none_taken : (b : PlainBook) (serial : ℕ) (c : PlainBook) → IsTakenFrom serial (with_room b) c → changes_since b.last_serial c ≡ []
none_taken b serial c t =
    none_of b.last_serial (without serial (force_of (with_room b))) c t.others
    (Each-filter (λ (e : Entry). e.serial ≤ b.last_serial) (λ (e : Entry). not (e.serial == serial)) (force_of (with_room b))
    (subst (λ n. Each (λ (e : Entry). e.serial ≤ n) (force_of (with_room b))) (same_last b) (all_given (with_room b) t.well)))

pub moves_add_none : (refused : Bool) (b : PlainBook) (event : PlainEvent) → IsWellBook b → accepts_move (bookstep refused b event).1 ≡ true → changes_since b.last_serial (bookstep refused b event).0 ≡ []
moves_add_none refused b event w =
    let P : PlainBook × PlainAnswer → Type 0 = λ p. accepts_move p.1 ≡ true → changes_since b.last_serial p.0 ≡ [] in
    step_cases P refused b event (record {
      stays = λ answer s i p e. none_since b w;
      records = λ change s reply n acts room e. cc;
      serves = λ change s reply n acts maps progs room e. cc;
      marks = λ name is none e. none_since (with_mark b name) (marked_well b w name);
      undoes = λ count e. none_since (back_to b count) (undone_well b w count);
      undoes_last = λ any e. none_since (back_to b (length b.line.moments - 1)) (undone_well b w (length b.line.moments - 1));
      redoes = λ any e. none_since (brought_back b) (redone_well b w);
      takes_out = λ serial s there replayed room e. none_taken b serial (within_window (with_taken_out b serial (without serial (newest_force b.line.moments)) s)) (taken_from b w serial s there room);
      forgets = λ name count is found none e. none_since (based_at b count) (forgotten_well b w count none (low_mark name (length b.line.moments) count b.marks w.marks found));
    })
