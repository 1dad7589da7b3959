-- A book with one moment more than another, within its window: the oldest moment joins the base if more are in force than
-- may be.
use Rattle.std.proofs.Common.{◌≡◌, ℕ, ◌+◌, ◌<◌, ◌≤◌, Bool, true, false, cond, not, List, [], ◌∷◌, ◌++◌, length, take, reverse, refl, sym, ◌∙◌, ap, subst, arith}
use Rattle.std.specs.Prelude.{nat_le, nat_lt, is_some, Option, Some, None, Ok}
use Rattle.std.proofs.lemmas.Bool.{leb-true, ltb-true, ltb-false, le-leb}
use Rattle.std.proofs.lemmas.List.{reverse-reverse}
use Rattle.host_state.specs.declared.change.Change.{Change}
use Rattle.host_state.specs.declared.reply.Reply.{Reply}
use Rattle.host_state.specs.State.{State}
use Rattle.host_state.specs.Act.{act}
use Rattle.journal_model.specs.Replay.{Entry, replay}
use Rattle.journal_model.specs.Force.{is_in_force, without}
use Rattle.journal_model.specs.Plain.{Past, Pasts, now, newest_force}
use Rattle.journal_model.specs.Rebase.{or_else, first_taken_from, still_taken_out}
use Rattle.journal_model.specs.Window.{kept_line, can_fold}
use Rattle.journal_model.specs.Book.{PlainBook, is_full, folded, within_window, with_moment}
use Rattle.journal_model.specs.Forget.{based_at}
use Rattle.journal_model.specs.Without.{with_taken_out}
use Rattle.journal_model.specs.Well.{Each, IsWellBook}
use Rattle.journal_model.proofs.Lists.{Each-append, Each-front, Each-reverse}
use Rattle.journal_model.proofs.Cases.{IsNumbered, HasRoom, HasRoomWithout, new_moment, taking_out}
use Rattle.journal_invariant.proofs.Settling.{both_true}
use Rattle.journal_invariant.proofs.Advanced.{behind, taken_in, LiesOn, same_earlier, same_ahead}
use Rattle.journal_invariant.proofs.Following.{Spares, spares}
use Rattle.journal_invariant.proofs.Staying.{well_same, recorded_well, taken_well}
use Rattle.journal_invariant.proofs.Forgetting.{forgotten_well}

-- ---- a line that can be folded
is_none_of : (o : Option ℕ) → not (is_some o) ≡ true → o ≡ None
is_none_of None e = refl
is_none_of (Some n) e = cc

pub has_first : (p : Pasts) → can_fold p ≡ true → 1 ≤ length p.moments
has_first p fold = leb-true 1 (length p.moments) (both_true (nat_le 1 (length p.moments)) _ fold).0

pub kept_none : (p : Pasts) → can_fold p ≡ true → still_taken_out 1 (kept_line p) ≡ None
kept_none p fold = is_none_of (still_taken_out 1 (kept_line p)) (both_true (nat_le 1 (length p.moments)) _ fold).1

pub none_took : (front : List Entry) (ms : List Past) → Each (Spares front) ms → first_taken_from front ms ≡ None
none_took front [] h = refl
none_took front (m ∷ ms) h = ap (λ o. or_else o (first_taken_from front ms)) h.0 ∙ none_took front ms h.1

-- ---- one moment more
-- the undone ones are given up for it
abbrev pub grown : Pasts → Past → Pasts
grown p m = record { base = p.base; moments = m ∷ p.moments; undone = [] }

abbrev pub on_kept : (p : Pasts) (m : Past) → LiesOn (kept_line p) (grown p m)
on_kept p m = record { base = refl; since = m ∷ []; moments = refl }

-- if the new moment takes nothing of the oldest out, it can still be folded
pub grown_none : (p : Pasts) (m : Past) → can_fold p ≡ true → Spares (taken_in 1 (kept_line p)) m → still_taken_out 1 (grown p m) ≡ None
grown_none p m fold spared =
    let front : List Entry = taken_in 1 (kept_line p) in
    let ahead : List Past = take (behind 1 (kept_line p)) p.moments in
    let some : 1 ≤ length p.moments = has_first p fold in
    let before : Each (Spares front) (reverse ahead) = Each-front (Spares front) (reverse ahead) [] (spares front (reverse ahead ++ []) (kept_none p fold)) in
    let with_new : Each (Spares front) (m ∷ ahead) = (spared, subst (Each (Spares front)) (reverse-reverse ahead) (Each-reverse (Spares front) (reverse ahead) before)) in
    subst (λ (x : List Past × List Past). first_taken_from (newest_force x.0) (reverse x.1 ++ []) ≡ None)
    (λ i. (sym (same_earlier 1 (kept_line p) (grown p m) some (on_kept p m)) i, sym (same_ahead 1 (kept_line p) (grown p m) some (on_kept p m)) i))
    (none_took front (reverse (m ∷ ahead) ++ []) (Each-append (Spares front) (reverse (m ∷ ahead)) [] (Each-reverse (Spares front) (m ∷ ahead) with_new) tt))

-- a book has one moment more than another, and the rest that the window asks for as it was
pub record Grows (b c : PlainBook) (m : Past) : Type 0 where
  pub line : c.line ≡ grown b.line m
  pub marks : c.marks ≡ b.marks
  pub limits : c.limits ≡ b.limits
  pub spares : is_full b ≡ true → (can_fold b.line ≡ true) × Spares (taken_in 1 (kept_line b.line)) m

pub moment_grows : (b : PlainBook) (change : Change) (s : State) (reply : Reply) → HasRoom b → Grows b (with_moment b change (s, reply)) (new_moment b change s reply)
moment_grows b change s reply room = record { line = refl; marks = refl; limits = refl; spares = λ full. (room full, refl) }

pub taking_grows : (b : PlainBook) (serial : ℕ) (s : State) → HasRoomWithout b serial → Grows b (with_taken_out b serial (without serial (newest_force b.line.moments)) s) (taking_out b serial s)
taking_grows b serial s room = record {
  line = refl;
  marks = refl;
  limits = refl;
  spares = λ full. ((room full).0, ap (λ t. cond t (Some (b.last_serial + 1)) None) (room full).1);
}

-- ---- the window
-- what is shown of a book with no more moments than may be, and of one whose oldest moment joined the base
pub window_cases : (P : PlainBook → Type 0) (c : PlainBook) → (length c.line.moments ≤ c.limits.journal → P c) → (nat_lt c.limits.journal (length c.line.moments) ≡ true → P (folded c)) → P (within_window c)
window_cases P c short long = by (nat_lt c.limits.journal (length c.line.moments)) refl
  where
    by : (b : Bool) → nat_lt c.limits.journal (length c.line.moments) ≡ b → P (cond b (folded c) c)
    by true e = long e
    by false e = short (ltb-false c.limits.journal (length c.line.moments) e)

pub same_serial : (c : PlainBook) → (within_window c).last_serial ≡ c.last_serial
same_serial c = window_cases (λ (d : PlainBook). d.last_serial ≡ c.last_serial) c (λ e. refl) (λ e. refl)

pub same_map : (c : PlainBook) → (within_window c).last_map ≡ c.last_map
same_map c = window_cases (λ (d : PlainBook). d.last_map ≡ c.last_map) c (λ e. refl) (λ e. refl)

pub same_prog : (c : PlainBook) → (within_window c).last_prog ≡ c.last_prog
same_prog c = window_cases (λ (d : PlainBook). d.last_prog ≡ c.last_prog) c (λ e. refl) (λ e. refl)

-- a book that grew past its window was full
pub was_full : (b c : PlainBook) (m : Past) → Grows b c m → nat_lt c.limits.journal (length c.line.moments) ≡ true → is_full b ≡ true
was_full b c m g long =
    let more : c.limits.journal < length c.line.moments = ltb-true c.limits.journal (length c.line.moments) long in
    let one : length c.line.moments ≡ length b.line.moments + 1 = ap (λ (p : Pasts). length p.moments) g.line ∙ omega arith in
    let same : c.limits.journal ≡ b.limits.journal = ap (λ limits. limits.journal) g.limits in
    le-leb b.limits.journal (length b.line.moments) (omega (arith, more, one, same))

pub can_join : (b c : PlainBook) (m : Past) → Grows b c m → nat_lt c.limits.journal (length c.line.moments) ≡ true → still_taken_out 1 c.line ≡ None
can_join b c m g long =
    let s = g.spares (was_full b c m g long) in
    ap (still_taken_out 1) g.line ∙ grown_none b.line m s.0 s.1

-- ---- well books
pub folded_well : (c : PlainBook) → IsWellBook c → 1 ≤ length c.line.moments → still_taken_out 1 c.line ≡ None → IsWellBook (folded c)
folded_well c w some none =
    let based : IsWellBook (based_at c 1) = forgotten_well c w 1 none some in
    well_same (based_at c 1) (folded c) (record { base = refl; serials = omega arith; maps = omega arith; progs = omega arith }) refl refl (λ P k. k) based.marks based

-- a well book that grew is well within its window
window_well : (b c : PlainBook) (m : Past) → Grows b c m → IsWellBook c → IsWellBook (within_window c)
window_well b c m g w = window_cases IsWellBook c (λ short. w) (λ long. folded_well c w (omega (arith, ltb-true c.limits.journal (length c.line.moments) long)) (can_join b c m g long))

pub recorded_stays : (b : PlainBook) → IsWellBook b → (change : Change) (s : State) (reply : Reply) → IsNumbered (b.last_map + 1) (b.last_prog + 1) change → act (now b.line) change ≡ Ok (s, reply) → HasRoom b
    → IsWellBook (within_window (with_moment b change (s, reply)))
recorded_stays b w change s reply n acts room =
    window_well b (with_moment b change (s, reply)) (new_moment b change s reply) (moment_grows b change s reply room) (recorded_well b w change s reply n acts)

pub taken_stays : (b : PlainBook) → IsWellBook b → (serial : ℕ) (s : State) → is_in_force serial (newest_force b.line.moments) ≡ true → replay b.line.base (without serial (newest_force b.line.moments)) ≡ Ok s → HasRoomWithout b serial
    → IsWellBook (within_window (with_taken_out b serial (without serial (newest_force b.line.moments)) s))
taken_stays b w serial s there replayed room =
    window_well b (with_taken_out b serial (without serial (newest_force b.line.moments)) s) (taking_out b serial s) (taking_grows b serial s room) (taken_well b w serial s there replayed)
