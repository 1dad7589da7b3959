-- One change is taken out alone, or it is told why not; and all that a journal promises.
use Rattle.std.proofs.Common.{◌≡◌, ℕ, suc, ◌+◌, ◌-◌, ◌<◌, ◌≤◌, Bool, true, false, cond, not, List, [], ◌∷◌, ◌++◌, length, drop, reverse, refl, sym, ◌∙◌, ap, subst, arith}
use Rattle.std.specs.Prelude.{◌&&◌, ◌||◌, nat_le, Result, Ok, Err, Option, Some, None}
use Rattle.std.proofs.lemmas.Bool.{leb-true, leb-false}
use Rattle.host_state.specs.State.{State}
use Rattle.journal_model.specs.declared.faults.WithoutFault.{WithoutFault}
use Rattle.journal_model.specs.declared.faults.WithoutFault.TheVariants.{NotInForce, SerialsSpent, JournalFull}
use Rattle.journal_model.specs.Replay.{Entry, replay}
use Rattle.journal_model.specs.Plain.{Past, newest_state, newest_force, now}
use Rattle.journal_model.specs.Marks.{Mark, has_name, moments_at}
use Rattle.journal_model.specs.Book.{PlainBook, state_of, force_of, is_full, folded, within_window, with_room, undo_fault, undone_from, undone_to, asked}
use Rattle.journal_model.specs.Without.{with_taken_out, taken_out_as, taken_out_unless}
use Rattle.journal_model.specs.Force.{is_in_force, without}
use Rattle.journal_model.specs.Window.{can_fold, is_first}
use Rattle.journal_model.specs.Run.{Given, book_after}
use Rattle.journal_model.specs.Well.{Each, IsInOrder, IsWellMoment, IsWellBook}
use Rattle.host_state.specs.declared.ask.Ask.{Ask}
use Rattle.journal_invariant.specs.Live.{HasSameLive}
use Rattle.journal_laws.specs.Laws.{MakesRoomAlone, IsTakenBack, ComesBack}
use Rattle.journal_laws.specs.Headline.{StandsAmong, IsWithout, IsFirstToDiffer, IsOneMore, GoesBack, IsOutcome, TakesOneOut, TakesOneOutAfter, ReturnsWhatWasTakenOut, WellKeepsItsWord}
use Rattle.journal_model.proofs.Lists.{Each-rest, EachPair-rest}
use Rattle.journal_model.proofs.Replaying.{replay_front, replay_after, Fails, fails}
use Rattle.journal_laws.proofs.Standing.{stands, nowhere}
use Rattle.journal_model.proofs.Others.{others_are}
use Rattle.journal_model.proofs.Cases.{HasRoomWithout, has_room_without, taking_out}
use Rattle.journal_laws.proofs.Taking.{one_taken_back}
use Rattle.journal_laws.proofs.Redoing.{redoes_undo_last}
use Rattle.journal_laws.proofs.Returning.{returns_to_mark}
use Rattle.journal_laws.proofs.Refusing.{changes_nothing}
use Rattle.journal_invariant.proofs.Recording.{events_rise}
use Rattle.journal_invariant.proofs.Limiting.{stays_within_limits}
use Rattle.journal_invariant.proofs.Settling.{both_true}
use Rattle.journal_laws.proofs.Holding.{holds_the_window}
use Rattle.journal_invariant.proofs.Staying.{low_mark, newest_is_well}
use Rattle.journal_invariant.proofs.Kept.{kept_book, kept_well}
use Rattle.journal_invariant.proofs.Forgetting.{keeps_what_is_later}
use Rattle.journal_invariant.proofs.Windowed.{kept_none, taking_grows, taken_stays}
use Rattle.journal_laws.proofs.Grown.{HasOneMore, IsTakenFrom, is_one_more, taken_from, found_as_is, found_folded}
use Rattle.journal_invariant.proofs.Events.{stays_well}
use Rattle.journal_laws.proofs.Sparing.{forgets_the_past_alone}
use Rattle.journal_laws.proofs.Asking.{answers_alike, book_answers_alike}
use Rattle.journal_laws.proofs.Living.{returns_what_lived}

-- ---- an undo of a taking out
-- an undo to a mark goes through one moment more
one_more : (b c : PlainBook) (m : Past) → c.marks ≡ b.marks → c.line.base ≡ b.line.base → c.line.moments ≡ m ∷ b.line.moments → Each (λ (mark : Mark). mark.moments ≤ length b.line.moments) b.marks
    → (name : List ℕ) (n : ℕ) → (undone_to b name).1 ≡ Ok n → IsOneMore name n b c
one_more b c m marks base moments low name n accepted = found (moments_at name b.marks) refl
  where
    found : (o : Option ℕ) → moments_at name b.marks ≡ o → IsOneMore name n b c
    found None e = let none : (undone_to b name).1 ≡ Err (undo_fault b name) = ap (λ o. (undone_from b name o).1) e in cc
    found (Some count) e =
        let within : count ≤ length b.line.moments = low_mark name (length b.line.moments) count b.marks low e in
        let told : (undone_to b name).1 ≡ Ok (length b.line.moments - count) = ap (λ o. (undone_from b name o).1) e in
        let same : length b.line.moments - count ≡ n = cc in
        let long : length c.line.moments ≡ length b.line.moments + 1 = ap length moments ∙ omega arith in
        let past : length c.line.moments - count ≡ suc n = omega arith in
        let in_b : undone_to b name ≡ undone_from b name (Some count) = ap (undone_from b name) e in
        let in_c : undone_to c name ≡ undone_from c name (Some count) = ap (undone_from c name) (ap (moments_at name) marks ∙ e) in
        let left : drop (length c.line.moments - count) c.line.moments ≡ drop (length b.line.moments - count) b.line.moments =
        ap (λ k. drop k c.line.moments) past ∙ ap (drop (suc n)) moments ∙ ap (λ k. drop k b.line.moments) (sym same) in
        record {
          accepted = ap (λ made. made.1) in_c ∙ ap Ok (omega arith);
          state = ap (λ made. newest_state made.0.line.base made.0.line.moments) in_c ∙ ap (newest_state c.line.base) left ∙ ap (λ s. newest_state s (drop (length b.line.moments - count) b.line.moments)) base
              ∙ sym (ap (λ made. newest_state made.0.line.base made.0.line.moments) in_b);
          force = ap (λ made. newest_force made.0.line.moments) in_c ∙ ap newest_force left ∙ sym (ap (λ made. newest_force made.0.line.moments) in_b);
          moments = ap (λ made. made.0.line.moments) in_c ∙ left ∙ sym (ap (λ made. made.0.line.moments) in_b);
        }

goes_back : (r c : PlainBook) → IsWellBook r → HasOneMore r c → GoesBack r c
goes_back r c w one =
    let back : IsTakenBack r c = one_taken_back r c one.moment one.base one.moments in
    record {
      last = back;
      again = redoes_undo_last c back.accepted;
      marks = one_more r c one.moment one.marks one.base one.moments w.marks;
    }

-- ---- the first that answers otherwise
first_to_differ : (b : PlainBook) (serial first : ℕ) → StandsAmong serial (force_of b) → replay b.line.base (force_of b) ≡ Ok (now b.line) → IsInOrder b.last_serial (force_of b)
    → replay b.line.base (without serial (force_of b)) ≡ Err first → IsFirstToDiffer b serial first
first_to_differ b serial first a replayed order failed =
    let base : State = b.line.base in
    let front = replay_front base (now b.line) a.before (a.one ∷ a.after) (ap (replay base) (sym a.whole) ∙ replayed) in
    let ordered : IsInOrder b.last_serial (a.before ++ a.one ∷ a.after) = subst (IsInOrder b.last_serial) a.whole order in
    let others : without serial (force_of b) ≡ a.before ++ a.after = ap (without serial) a.whole ∙ others_are b.last_serial serial a.before a.one a.after a.its ordered in
    let f : Fails front.0 a.after first = fails front.0 a.after first (sym (replay_after base front.0 a.before a.after front.1) ∙ ap (replay base) (sym others) ∙ failed) in
    let above : Each (λ (y : Entry). a.one.serial < y.serial) (f.between ++ f.dependant ∷ f.after) =
    subst (Each (λ (y : Entry). a.one.serial < y.serial)) f.whole (EachPair-rest (λ (x y : Entry). x.serial < y.serial) a.before (a.one ∷ a.after) ordered.0).0 in
    let later : a.one.serial < f.dependant.serial = (Each-rest (λ (y : Entry). a.one.serial < y.serial) f.between (f.dependant ∷ f.after) above).0 in
    record {
      before = a.before;
      one = a.one;
      between = f.between;
      dependant = f.dependant;
      after = f.after;
      whole = a.whole ∙ ap (λ xs. a.before ++ a.one ∷ xs) f.whole;
      its = a.its;
      told = f.told;
      later = omega (arith, later, a.its, f.told);
      until = f.until;
      as_before = replay_after base front.0 a.before f.between front.1 ∙ f.so_far;
      otherwise = f.otherwise;
    }

newest : (b : PlainBook) → IsWellBook b → (replay b.line.base (force_of b) ≡ Ok (now b.line)) × IsInOrder b.last_serial (force_of b)
newest b w = let n = newest_is_well b b.line.moments w.base (Each-rest (IsWellMoment b) (reverse b.line.undone) b.line.moments w.moments) in (n.0, n.1)

-- ---- what becomes of a taking out
abbrev Becomes : PlainBook → ℕ → PlainBook × Result ℕ WithoutFault → Type 0
Becomes b serial made = IsOutcome b serial made.0 made.1

-- the others are in force, and answer as they did
is_without : (r c : PlainBook) (serial : ℕ) → IsTakenFrom serial r c → IsWellBook c → c.line.base ≡ r.line.base → IsWithout r serial c
is_without r c serial t wc base =
    let a : StandsAmong serial (force_of r) = stands serial (force_of r) t.there in
    let order : IsInOrder r.last_serial (force_of r) = (newest r t.well).1 in
    let others : force_of c ≡ a.before ++ a.after =
    t.others ∙ ap (without serial) a.whole ∙ others_are r.last_serial serial a.before a.one a.after a.its (subst (IsInOrder r.last_serial) a.whole order) in
    record {
      stood = a;
      base = base;
      force = others;
      state = (λ i. replay (sym base i) (sym others i)) ∙ (newest c wc).0;
    }

done_or_not : (b : PlainBook) → IsWellBook b → (serial : ℕ) → is_in_force serial (force_of b) ≡ true → HasRoomWithout b serial → (r : Result State ℕ) → replay b.line.base (without serial (force_of b)) ≡ r
    → Becomes b serial (taken_out_as b serial (without serial (force_of b)) r)
done_or_not b w serial there room (Ok s) e =
    let c : PlainBook = with_taken_out b serial (without serial (force_of b)) s in
    let one : HasOneMore (with_room b) (within_window c) = is_one_more b c (taking_out b serial s) (taking_grows b serial s room) in
    let taken : IsTakenFrom serial (with_room b) (within_window c) = taken_from b w serial s there room in (
      refl,
      is_without (with_room b) (within_window c) serial taken (taken_stays b w serial s there e room) one.base,
      goes_back (with_room b) (within_window c) taken.well one,
    )
done_or_not b w serial there room (Err first) e = (refl, first_to_differ b serial first (stands serial (force_of b) there) (newest b w).0 (newest b w).1 e)

becomes : (b : PlainBook) → IsWellBook b → (serial : ℕ) (there spent full : Bool) → is_in_force serial (force_of b) ≡ there → nat_le b.limits.last_serial b.last_serial ≡ spent
    → is_full b && (is_first serial b.line || not (can_fold b.line)) ≡ full
    → Becomes b serial (taken_out_unless (cond (not there) (Some NotInForce) (cond spent (Some SerialsSpent) (cond full (Some JournalFull) None))) b serial)
becomes b w serial false spent full t s f = (refl, nowhere serial (force_of b) t)
becomes b w serial true true full t s f = (refl, (stands serial (force_of b) t, leb-true b.limits.last_serial b.last_serial s))
becomes b w serial true false true t s f =
    let held = both_true (is_full b) (is_first serial b.line || not (can_fold b.line)) f in
    (refl, (stands serial (force_of b) t, leb-false b.limits.last_serial b.last_serial s, leb-true b.limits.journal (length b.line.moments) held.0, holds_the_window b w serial t held.1))
becomes b w serial true false false t s f = done_or_not b w serial t (has_room_without b serial f) (replay b.line.base (without serial (force_of b))) refl

takes_one_out : (b : PlainBook) → IsWellBook b → (serial : ℕ) → TakesOneOut b serial
takes_one_out b w serial = becomes b w serial (is_in_force serial (force_of b)) (nat_le b.limits.last_serial b.last_serial) (is_full b && (is_first serial b.line || not (can_fold b.line))) refl refl refl

pub takes_one_out_after : (b : PlainBook) (events : List Given) (serial : ℕ) → TakesOneOutAfter b events serial
takes_one_out_after b events serial w = takes_one_out (book_after b events) (stays_well b events w) serial

-- ---- an undo to a mark
pub returns_what_was_taken_out : (b : PlainBook) (before : List Given) (refused : Bool) (name : List ℕ) (after : List Given) (serial : ℕ) → ReturnsWhatWasTakenOut b before refused name after serial
returns_what_was_taken_out b before refused name after serial made stands there =
    let back : ComesBack name _ (book_after b before) _ = returns_to_mark b before refused name after made stands in
    subst (StandsAmong serial) (sym back.force) there

-- ---- the window
pub makes_room_alone : (b : PlainBook) → MakesRoomAlone b
makes_room_alone b w fold = by (is_full b) refl
  where
    Alike : PlainBook → Type 0
    Alike c = HasSameLive (state_of b) (state_of c) × ((question : Ask) → asked c question ≡ asked b question)

    by : (full : Bool) → is_full b ≡ full → Alike (with_room b)
    by true e =
        let same : HasSameLive (state_of b) (state_of (folded (kept_book b))) = (keeps_what_is_later (kept_book b) (kept_well b w) 1 (kept_none b.line fold)).state in
        subst Alike (found_folded b e) (same, answers_alike (state_of b) (state_of (folded (kept_book b))) same)
    by false e = subst Alike (found_as_is b e) (record { maps = λ id. refl; progs = λ id. refl; pins = refl; devices = refl }, (λ question. refl))

-- ---- all of it
pub keeps_its_word : (b : PlainBook) (events : List Given) → WellKeepsItsWord b events
keeps_its_word b events w = record {
  marks = λ before refused name after whole. returns_to_mark b before refused name after;
  lives = λ before refused name after whole. returns_what_lived b before refused name after;
  alone = takes_one_out (book_after b events) (stays_well b events w);
  past = forgets_the_past_alone (book_after b events);
  asked = book_answers_alike (book_after b events);
  room = makes_room_alone (book_after b events);
  refusals = changes_nothing (book_after b events);
  serials = events_rise b events;
  limits = λ limits. stays_within_limits limits b events;
}
