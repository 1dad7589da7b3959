-- The oldest moment joins the base, if one more was made than may be in force.
use Rattle.std.proofs.Common.{◌≡◌, ℕ, ◌+◌, ◌≤◌, true, false, cond, [], ◌++◌, length, Result, Ok, Err, sym, ◌∙◌, ap, subst}
use Rattle.std.specs.Prelude.{None, is_ok, IsOk}
use Rattle.std.proofs.lemmas.Bool.{lt-ltb}
use Rattle.host_state.specs.declared.change.Change.{Change}
use Rattle.host_state.specs.declared.reply.Reply.{Reply}
use Rattle.host_state.specs.declared.reply.Refusal.{Refusal}
use Rattle.host_state.specs.declared.reply.Refusal.TheVariants.{Errno, NoMemory}
use Rattle.host_state.specs.State.{State}
use Rattle.host_state.specs.Act.{Outcome}
use Rattle.journal_model.specs.Force.{without}
use Rattle.journal_model.specs.Plain.{Past, Pasts, newest_force, cut}
use Rattle.journal_model.specs.Book.{PlainBook, folded, within_window, with_moment, noted_as, recorded_as, OrNoMemory}
use Rattle.journal_model.specs.Rebase.{still_taken_out, advanced}
use Rattle.journal_model.specs.Without.{with_taken_out}
use Rattle.journal_model.proofs.Cases.{HasRoom, HasRoomWithout, new_moment, taking_out}
use Rattle.journal_invariant.proofs.Windowed.{Grows, moment_grows, taking_grows, can_join, folded_well}
use Rattle.journal_model.specs.Marks.{marks_from, names_below}
use Rattle.journal_model.specs.Well.{IsWellBook}
use Rattle.journal_invariant.proofs.Staying.{undone_well}
use Rattle.journal_keeping.specs.Rebased.{AllBegin}
use Rattle.journal_keeping.specs.Staged.{Staged}
use Rattle.journal_keeping.specs.MarksView.{MarksView}
use Rattle.bt_journal.specs.Joining.{CanJoin}
use Rattle.bt_journal.specs.Taking.{IsRest}
use Rattle.bt_journal.proofs.OrderedLemmas.{rest_kept}
use Rattle.bt_journal.proofs.ForgetLemmas.{all_begin}
use Rattle.bt_journal.proofs.WellLemmas.{well_marks}

joins : (b c : PlainBook) (m : Past) → Grows b c m → CanJoin c
joins b c m g more = can_join b c m g (lt-ltb c.limits.journal (length c.line.moments) more)

ok_err : (done : ℕ × Reply) (refusal : Refusal) → ◌≡◌ {A = Result (ℕ × Reply) Refusal} (Ok done) (Err refusal) → ⊥
ok_err done refusal e = cc

module _ (b : PlainBook) (change : Change) where
  abbrev Made : PlainBook × Result (ℕ × Reply) Refusal → Outcome → Type 0
  Made made o = OrNoMemory b NoMemory (noted_as b change o) made

  -- a change that was done leaves a moment more
  pub noted_joins : (new : PlainBook) (made : Result (ℕ × Reply) Refusal) (o : Outcome) → HasRoom b → Made (new, made) o → IsOk made → CanJoin new
  noted_joins new (Err refusal) o room m ok = absurd (not_ok ok)
    where
      not_ok : is_ok (let r : Result (ℕ × Reply) Refusal = Err refusal in r) ≡ true → ⊥
      not_ok e = cc
  noted_joins new (Ok done) o room (true, e) ok = absurd (ok_err done NoMemory (ap (λ made. made.1) e))
  noted_joins new (Ok done) (Err errno) room (false, e) ok = absurd (ok_err done (Errno errno) (ap (λ made. made.1) e))
  noted_joins new (Ok done) (Ok to) room (false, e) ok =
      subst CanJoin (sym (ap (λ made. made.0) e)) (joins b (with_moment b change to) (new_moment b change to.0 to.1) (moment_grows b change to.0 to.1 room))

  -- and the window is kept then
  pub noted_windows : (new : PlainBook) (made : Result (ℕ × Reply) Refusal) (o : Outcome) → Made (new, made) o → OrNoMemory b NoMemory (recorded_as b change o) (cond (is_ok made) (within_window new) new, made)
  noted_windows new (Ok done) o (true, e) = absurd (ok_err done NoMemory (ap (λ made. made.1) e))
  noted_windows new (Ok done) (Err errno) (false, e) = absurd (ok_err done (Errno errno) (ap (λ made. made.1) e))
  noted_windows new (Ok done) (Ok to) (false, e) = (false, ap (λ made. let r : PlainBook × Result (ℕ × Reply) Refusal = (within_window made.0, made.1) in r) e)
  noted_windows new (Err refusal) o (true, e) = (true, e)
  noted_windows new (Err refusal) (Err errno) (false, e) = (false, e)
  noted_windows new (Err refusal) (Ok to) (false, e) = absurd (ok_err (b.last_serial + 1, to.1) refusal (sym (ap (λ made. made.1) e)))

-- a taking out leaves this
pub taken_joins : (b : PlainBook) (serial : ℕ) (s : State) → HasRoomWithout b serial → CanJoin (with_taken_out b serial (without serial (newest_force b.line.moments)) s)
taken_joins b serial s room = joins b (with_taken_out b serial (without serial (newest_force b.line.moments)) s) (taking_out b serial s) (taking_grows b serial s room)

-- ---- a taking out
pub room_same : (b : PlainBook) (line : Pasts) (serial other : ℕ) → line ≡ b.line → other ≡ serial → HasRoomWithout b serial → HasRoomWithout (record b { line = line }) other
room_same b line serial other l s room = subst (λ (x : Pasts × ℕ). HasRoomWithout (record b { line = x.0 }) x.1) (λ i. (sym l i, sym s i)) room

-- if the one is out and nothing is left to do again
pub taken_can_join : (b c : PlainBook) (s : Staged) → c ≡ with_taken_out b s.serial s.in_place s.state → s.line.pasts ≡ b.line → s.out ≡ true → s.left ≡ [] → IsRest s → HasRoomWithout b s.serial → CanJoin c
taken_can_join b c s is line out left rest room =
    let force : s.in_place ≡ without s.serial (newest_force b.line.moments) = (rest_kept s out left rest).1 ∙ ap (λ (p : Pasts). without s.serial (newest_force p.moments)) line in
    subst CanJoin (sym (is ∙ ap (λ f. with_taken_out b s.serial f s.state) force)) (taken_joins b s.serial s.state room)

-- ---- the book after it
-- what a book needs to let its oldest moment join the base
pub joined_begin : (b : PlainBook) → IsWellBook b → still_taken_out 1 b.line ≡ None → (let before = cut 1 b.line in AllBegin (newest_force before.moments) before.undone)
joined_begin b w none = all_begin (cut 1 b.line) (undone_well b w 1).follow none

pub joined_well : (b : PlainBook) (line : Pasts) (v : MarksView) → IsWellBook b → 1 ≤ length b.line.moments → still_taken_out 1 b.line ≡ None → line ≡ advanced 1 b.line → v.gone ≡ b.gone + 1 → v.standing ≡ marks_from 1 b.marks
    → v.forgotten ≡ b.forgotten_marks ++ names_below 1 b.marks → IsWellBook (record b { line = line; gone = v.gone; marks = v.standing; forgotten_marks = v.forgotten })
joined_well b line v w some none l g m f = well_marks (folded b) line v b.gave_up l g m f (folded_well b w some none)
