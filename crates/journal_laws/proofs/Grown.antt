-- A book that an accepted change or taking out leaves: the book that it finds, with one moment more.
use Rattle.std.proofs.Common.{◌≡◌, ℕ, ◌+◌, ◌≤◌, true, false, cond, List, ◌∷◌, ◌++◌, length, take, drop, map as each, refl, sym, ◌∙◌, ap, subst}
use Rattle.std.specs.Prelude.{◌||◌, None}
use Rattle.std.proofs.Math.Seq.{drop-append_seam}
use Rattle.host_state.specs.State.{State}
use Rattle.journal_model.specs.Replay.{Entry}
use Rattle.journal_model.specs.Force.{is_in_force, without}
use Rattle.journal_model.specs.Plain.{Past, Pasts, newest_force}
use Rattle.journal_model.specs.Marks.{marks_from}
use Rattle.journal_model.specs.Rebase.{advanced, still_taken_out}
use Rattle.journal_model.specs.Window.{kept_line, can_fold, is_first}
use Rattle.journal_model.specs.Book.{PlainBook, force_of, is_full, folded, within_window, with_room}
use Rattle.journal_model.specs.Without.{with_taken_out}
use Rattle.journal_model.specs.Well.{IsWellBook}
use Rattle.journal_model.proofs.Cases.{HasRoomWithout, taking_out}
use Rattle.journal_invariant.proofs.Advanced.{behind, on_base, taken_in, advanced_moments, same_on, same_ahead, lies_advanced}
use Rattle.journal_invariant.proofs.Following.{without-append, in_force-append, not_there}
use Rattle.journal_invariant.proofs.Forgetting.{keeps_what_is_later}
use Rattle.journal_invariant.proofs.Windowed.{has_first, kept_none, folded_well, grown, on_kept, Grows, taking_grows, window_cases, was_full}
use Rattle.journal_invariant.proofs.Kept.{kept_book, kept_well}
use Rattle.journal_laws.proofs.Returning.{not_full}

-- one moment more, and the marks as they were
pub record HasOneMore (r c : PlainBook) : Type 0 where
  pub moment : Past
  pub base : c.line.base ≡ r.line.base
  pub moments : c.line.moments ≡ moment ∷ r.line.moments
  pub marks : c.marks ≡ r.marks

-- ---- the book that it finds
pub found_as_is : (b : PlainBook) → is_full b ≡ false → b ≡ with_room b
found_as_is b e = sym (ap (λ t. cond t (folded (kept_book b)) b) e)

pub found_folded : (b : PlainBook) → is_full b ≡ true → folded (kept_book b) ≡ with_room b
found_folded b e = sym (ap (λ t. cond t (folded (kept_book b)) b) e)

-- what is shown of a book with room, and of one whose oldest moment joins the base first
pub found_cases : (P : PlainBook → PlainBook → Type 0) (b c : PlainBook) (m : Past) → Grows b c m → (is_full b ≡ false → P b c) → (is_full b ≡ true → P (folded (kept_book b)) (folded c)) → P (with_room b) (within_window c)
found_cases P b c m g short long =
    window_cases (P (with_room b)) c
    (λ few. let e = not_full b c m g few in subst (λ r. P r c) (found_as_is b e) (short e))
    (λ many. let e = was_full b c m g many in subst (λ r. P r (folded c)) (found_folded b e) (long e))

-- ---- the oldest joins the base below one moment more as it does without it
pub advanced_over : (p : Pasts) (m : Past) → 1 ≤ length p.moments → (advanced 1 (grown p m)).moments ≡ on_base 1 (kept_line p) m ∷ (advanced 1 (kept_line p)).moments
advanced_over p m some =
    let whole : Pasts = grown p m in
    let below : Pasts = kept_line p in
    advanced_moments 1 whole
    ∙ ap (λ f. each f (take (behind 1 whole) whole.moments)) (same_on 1 below whole some (on_kept p m))
    ∙ ap (each (on_base 1 below)) (same_ahead 1 below whole some (on_kept p m))
    ∙ ap (λ ms. on_base 1 below m ∷ ms) (sym (advanced_moments 1 below))

pub is_one_more : (b c : PlainBook) (m : Past) → Grows b c m → HasOneMore (with_room b) (within_window c)
is_one_more b c m g = found_cases HasOneMore b c m g
    (λ e. record { moment = m; base = ap (λ (p : Pasts). p.base) g.line; moments = ap (λ (p : Pasts). p.moments) g.line; marks = g.marks })
    (λ full.
    let some : 1 ≤ length b.line.moments = has_first b.line (g.spares full).0 in
    record {
      moment = on_base 1 (kept_line b.line) m;
      base = ap (λ p. (advanced 1 p).base) g.line ∙ (lies_advanced 1 (kept_line b.line) (grown b.line m) some (on_kept b.line m)).base;
      moments = ap (λ p. (advanced 1 p).moments) g.line ∙ advanced_over b.line m some;
      marks = ap (marks_from 1) g.marks;
    })

-- ---- the others, if one is taken out
-- a well book, in which the change is in force; without it the changes in force of the other
pub record IsTakenFrom (serial : ℕ) (r c : PlainBook) : Type 0 where
  pub well : IsWellBook r
  pub there : is_in_force serial (force_of r) ≡ true
  pub others : force_of c ≡ without serial (force_of r)

pub taken_from : (b : PlainBook) → IsWellBook b → (serial : ℕ) (s : State) → is_in_force serial (force_of b) ≡ true → (room : HasRoomWithout b serial) →
    IsTakenFrom serial (with_room b) (within_window (with_taken_out b serial (without serial (force_of b)) s))
taken_from b w serial s there room =
    found_cases (IsTakenFrom serial) b (with_taken_out b serial (without serial (force_of b)) s) (taking_out b serial s) (taking_grows b serial s room)
    (λ e. record { well = w; there = there; others = refl })
    (λ full. behind (room full).0 (room full).1)
  where
    behind : can_fold b.line ≡ true → is_first serial b.line ≡ false → IsTakenFrom serial (folded (kept_book b)) (folded (with_taken_out b serial (without serial (force_of b)) s))
    behind fold not_first =
        let front : List Entry = taken_in 1 (kept_line b.line) in
        let wk : IsWellBook (kept_book b) = kept_well b w in
        let none : still_taken_out 1 (kept_line b.line) ≡ None = kept_none b.line fold in
        let r : PlainBook = folded (kept_book b) in
        let whole : force_of b ≡ front ++ force_of r = (keeps_what_is_later (kept_book b) wk 1 none).force in
        let left : without serial (force_of b) ≡ front ++ without serial (force_of r) =
        ap (without serial) whole ∙ without-append serial front (force_of r) ∙ ap (λ es. es ++ without serial (force_of r)) (not_there serial front not_first) in
        record {
          well = folded_well (kept_book b) wk (has_first b.line fold) none;
          there = ap (λ t. t || is_in_force serial (force_of r)) (sym not_first) ∙ sym (in_force-append serial front (force_of r)) ∙ ap (is_in_force serial) (sym whole) ∙ there;
          others = ap newest_force (advanced_over b.line (taking_out b serial s) (has_first b.line fold)) ∙ ap (drop (length front)) left ∙ drop-append_seam front (without serial (force_of r));
        }
