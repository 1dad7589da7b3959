-- An undo of the last moment takes an accepted change back.
use Rattle.std.proofs.Common.{◌≡◌, ◌+◌, ◌-◌, true, cond, ◌∷◌, length, drop, refl, ◌∙◌, ap, arith}
use Rattle.std.specs.Prelude.{nat_le, IsOk, Result, Ok, Err, Option, Some, None}
use Rattle.std.proofs.lemmas.Bool.{le-leb}
use Rattle.host_state.specs.declared.change.Change.{Change}
use Rattle.host_state.specs.declared.reply.Refusal.{Refusal}
use Rattle.host_state.specs.Act.{Outcome, act}
use Rattle.journal_model.specs.declared.faults.NothingToUndo.{NothingToUndo}
use Rattle.journal_model.specs.Plain.{Past, now, newest_state, newest_force}
use Rattle.journal_model.specs.Blank.{Blank}
use Rattle.journal_model.specs.Book.{PlainBook, within_window, with_room, refusal_of, done_as, with_moment, recorded_as, recorded_unless, back_to, undone_last}
use Rattle.journal_laws.specs.Laws.{IsTakenBack, TakesBack}
use Rattle.journal_model.proofs.Cases.{HasRoom, new_moment, room_for}
use Rattle.journal_invariant.proofs.Windowed.{moment_grows}
use Rattle.journal_laws.proofs.Grown.{HasOneMore, is_one_more}

-- one moment more is taken back
pub one_taken_back : (b c : PlainBook) (m : Past) → c.line.base ≡ b.line.base → c.line.moments ≡ m ∷ b.line.moments → IsTakenBack b c
one_taken_back b c m base moments =
    let long : length c.line.moments ≡ length b.line.moments + 1 = ap length moments ∙ omega arith in
    let any : nat_le 1 (length c.line.moments) ≡ true = le-leb 1 (length c.line.moments) (omega arith) in
    let undone : undone_last c ≡ (back_to c (length c.line.moments - 1), Ok tt) =
    ap (λ t. let made : PlainBook × Result (Unit {0}) NothingToUndo = cond t (back_to c (length c.line.moments - 1), Ok tt) (c, Err (record {})) in made) any in
    let one : length c.line.moments - (length c.line.moments - 1) ≡ 1 = omega arith in
    let left : drop (length c.line.moments - (length c.line.moments - 1)) c.line.moments ≡ b.line.moments = ap (λ n. drop n c.line.moments) one ∙ ap (drop 1) moments in
    record {
      accepted = ap (λ made. made.1) undone;
      state = ap (λ made. newest_state made.0.line.base made.0.line.moments) undone ∙ ap (newest_state c.line.base) left ∙ ap (λ s. newest_state s b.line.moments) base;
      force = ap (λ made. newest_force made.0.line.moments) undone ∙ ap newest_force left;
      moments = ap (λ made. made.0.line.moments) undone ∙ left;
    }

as_taken : (b : PlainBook) (change : Change) → HasRoom b → (o : Outcome) → IsOk (recorded_as b change o).1 → IsTakenBack (with_room b) (recorded_as b change o).0
as_taken b change room (Err errno) e = cc
as_taken b change room (Ok done) e =
    let c : PlainBook = with_moment b change done in
    let one : HasOneMore (with_room b) (within_window c) = is_one_more b c (new_moment b change done.0 done.1) (moment_grows b change done.0 done.1 room) in
    one_taken_back (with_room b) (within_window c) one.moment one.base one.moments

unless_taken : (b : PlainBook) (change : Change) (blank : Option Blank) (o : Option Refusal) → refusal_of b change blank ≡ o → IsOk (recorded_unless o b (done_as b change blank)).1
    → IsTakenBack (with_room b) (recorded_unless o b (done_as b change blank)).0
unless_taken b change blank (Some refusal) none e = cc
unless_taken b change blank None none e = as_taken b (done_as b change blank) (room_for b change blank none) (act (now b.line) (done_as b change blank)) e

pub takes_back : (b : PlainBook) (change : Change) (blank : Option Blank) → TakesBack b change blank
takes_back b change blank = unless_taken b change blank (refusal_of b change blank) refl
