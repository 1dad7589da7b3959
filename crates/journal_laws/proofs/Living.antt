-- What was live when a mark was made is live again after an undo to it, whatever was given up since.
use Rattle.std.proofs.Common.{◌≡◌, ℕ, ◌-◌, ◌<◌, ◌≤◌, Bool, true, cond, List, [], ◌∷◌, ◌++◌, length, take, map as each, refl, sym, ◌∙◌, ap, subst, arith}
use Rattle.std.specs.Prelude.{is_some, is_ok, Option, None, Some}
use Rattle.std.proofs.lemmas.List.{append_assoc, take-append-drop}
use Rattle.host_state.specs.State.{State}
use Rattle.journal_model.specs.Replay.{Entry}
use Rattle.journal_model.specs.Plain.{Past, Pasts, now, newest_state, newest_force}
use Rattle.journal_model.specs.Marks.{moments_at}
use Rattle.journal_model.specs.Book.{PlainBook, folded, within_window, with_moment, with_mark, back_to, brought_back, undone_to}
use Rattle.journal_model.specs.Force.{without}
use Rattle.journal_model.specs.Without.{with_taken_out}
use Rattle.journal_model.specs.Forget.{forgotten_unless, forgotten_from}
use Rattle.journal_model.specs.Rebase.{without_retired, advanced, still_taken_out}
use Rattle.journal_model.specs.Run.{PlainEvent, PlainAnswer, Record, Mark as MarkEvent, UndoTo, UndoLast, Redo, Without, Forget, ListAll, Ask, Start, Serve, Given, bookstep, book_after}
use Rattle.journal_model.specs.Well.{Each, IsWellBook}
use Rattle.journal_laws.specs.Laws.{StandsThrough, given_up_for_room, moments_given_up, given_up_in, let_go, ComesBack, ReturnsWhatLived, ReturnsWhatLivedAtLast}
use Rattle.journal_invariant.specs.Live.{HasSameLive}
use Rattle.journal_model.proofs.Lists.{Each-rest}
use Rattle.journal_invariant.proofs.Dropping.{StaysRetired, retired_itself, same_dropped}
use Rattle.journal_invariant.proofs.Advanced.{behind, earlier, new_base, taken_in, on_base, advanced_moments, LiesOn, same_earlier, same_base, same_ahead}
use Rattle.journal_invariant.proofs.Following.{BeginsWith, dropped}
use Rattle.journal_invariant.proofs.Forgetting.{ahead_begins, ahead_retired}
use Rattle.journal_invariant.proofs.Staying.{recorded_well, taken_well}
use Rattle.journal_invariant.proofs.Windowed.{Grows, moment_grows, taking_grows, window_cases, was_full, can_join}
use Rattle.journal_invariant.proofs.Events.{step_stays, stays_well}
use Rattle.journal_model.proofs.Cases.{new_moment, taking_out, step_cases}
use Rattle.journal_laws.proofs.Asking.{answers_alike}
use Rattle.journal_laws.proofs.Marking.{found_from, stood_from}
use Rattle.journal_laws.proofs.Returning.{Keeps, less, none_for_room, none_with_room, one_for_room, grown_keeps, not_full, step_keeps, first_stands, made_keeps, let_go_first, returns_to_mark, stood_through}
use Rattle.journal_model.proofs.Running.{book_after-append}

-- ---- lines
-- the same lives, and the changes in force are those of the other, but for the first
record IsLess (old new : Pasts) : Type 0 where
  lives : HasSameLive (now old) (now new)
  based : List Entry
  force : newest_force old.moments ≡ based ++ newest_force new.moments

itself : (p : Pasts) → IsLess p p
itself p = record { lives = record { maps = λ id. refl; progs = λ id. refl; pins = refl; devices = refl }; based = []; force = refl }

through : (p q r : Pasts) → IsLess p q → IsLess q r → IsLess p r
through p q r h k = record {
  lives = record {
    maps = λ id. k.lives.maps id ∙ h.lives.maps id;
    progs = λ id. k.lives.progs id ∙ h.lives.progs id;
    pins = k.lives.pins ∙ h.lives.pins;
    devices = k.lives.devices ∙ h.lives.devices;
  };
  based = h.based ++ k.based;
  force = h.force ∙ ap (λ es. h.based ++ es) k.force ∙ sym (append_assoc h.based k.based (newest_force r.moments));
}

-- ---- a forgetting
-- the newest of the moments up to a mark has what it had, on the new base
module _ (b : PlainBook) (w : IsWellBook b) (count : ℕ) (none : still_taken_out count b.line ≡ None) (below : Pasts) (low : count ≤ length below.moments) (l : LiesOn below b.line) where
  abbrev base : State
  base = new_base count below

  abbrev front : List Entry
  front = taken_in count below

  abbrev ahead : List Past
  ahead = take (behind count below) below.moments

  abbrev Stays : Past → Type 0
  Stays m = StaysRetired base m.state

  abbrev Begins : Past → Type 0
  Begins m = BeginsWith front m.force

  stays : Each Stays ahead
  stays =
      Each-rest Stays l.since ahead
      (subst (λ (x : State × List Past). Each (λ (m : Past). StaysRetired x.0 m.state) x.1) (λ i. (same_base count below b.line low l i, same_ahead count below b.line low l i)) (ahead_retired b w count none))

  begins : Each Begins ahead
  begins =
      Each-rest Begins l.since ahead
      (subst (λ (x : List Entry × List Past). Each (λ (m : Past). BeginsWith x.0 m.force) x.1)
      (λ i. (newest_force (same_earlier count below b.line low l i), same_ahead count below b.line low l i)) (ahead_begins b w count none))

  newest_lives : (ms : List Past) → Each Stays ms → HasSameLive (newest_state below.base (ms ++ earlier count below)) (newest_state (without_retired base base) (each (on_base count below) ms))
  newest_lives [] h = same_dropped base base (retired_itself base)
  newest_lives (m ∷ ms) h = same_dropped base m.state h.0

  newest_begins : (ms : List Past) → Each Begins ms → newest_force (ms ++ earlier count below) ≡ front ++ newest_force (each (on_base count below) ms)
  newest_begins [] h = nothing_more front
    where
      nothing_more : (xs : List Entry) → xs ≡ xs ++ []
      nothing_more [] = refl
      nothing_more (x ∷ xs) = ap (λ ys. x ∷ ys) (nothing_more xs)
  newest_begins (m ∷ ms) h = h.0.is ∙ ap (λ es. front ++ es) (sym (dropped front m.force h.0))

  is_less : IsLess below (advanced count below)
  is_less = record {
    lives = subst (λ (x : List Past × List Past). HasSameLive (newest_state below.base x.0) (newest_state (without_retired base base) x.1))
        (λ i. (take-append-drop (behind count below) below.moments i, sym (advanced_moments count below) i)) (newest_lives ahead stays);
    based = front;
    force = ap newest_force (sym (take-append-drop (behind count below) below.moments)) ∙ newest_begins ahead begins ∙ ap (λ ms. front ++ newest_force ms) (sym (advanced_moments count below));
  }

-- ---- an event
forget_lives : (name other : List ℕ) (below : Pasts) (b : PlainBook) → IsWellBook b → Keeps name below b → (o : Option ℕ) →
    is_some (moments_at name (forgotten_from b other o).0.marks) ≡ true → IsLess below (less (cond (is_ok (forgotten_from b other o).1) o None) below)
forget_lives name other below b w k None e = itself below
forget_lives name other below b w k (Some count) e = unless (still_taken_out count b.line) refl e
  where
    unless : (taken : Option ℕ) → still_taken_out count b.line ≡ taken → is_some (moments_at name (forgotten_unless taken b count).0.marks) ≡ true
        → IsLess below (less (cond (is_ok (forgotten_unless taken b count).1) (Some count) None) below)
    unless (Some serial) is e = itself below
    unless None is e = is_less b w count is below (found_from name (length below.moments) count b.marks k.at e) k.lies

-- the oldest joins the base if there was no room for one more
abbrev LivesFor : List ℕ → Pasts → PlainBook → PlainBook → Type 0
LivesFor name below b next = is_some (moments_at name next.marks) ≡ true → IsLess below (less (given_up_for_room b next) below)

gives_none : (below : Pasts) (b next : PlainBook) → given_up_for_room b next ≡ None → IsLess below (less (given_up_for_room b next) below)
gives_none below b next none = subst (λ o. IsLess below (less o below)) (sym none) (itself below)

window_lives : (name : List ℕ) (below : Pasts) (b c : PlainBook) (m : Past) → Grows b c m → IsWellBook c → b.last_serial < c.last_serial → Keeps name below b → LivesFor name below b (within_window c)
window_lives name below b c m g wc rises k = window_cases (LivesFor name below b) c
    (λ few stands. gives_none below b c (none_with_room b c (not_full b c m g few)))
    (λ long stands.
    let kc : Keeps name below c = grown_keeps name below b c m g k (stood_from name 1 c.marks stands) in
    subst (λ o. IsLess below (less o below)) (sym (one_for_room b (folded c) (was_full b c m g long) rises))
    (is_less c wc 1 (can_join b c m g long) below (found_from name (length below.moments) 1 c.marks kc.at stands) kc.lies))

-- any other event
other_lives : (name : List ℕ) (below : Pasts) (refused : Bool) (b : PlainBook) (event : PlainEvent) → ((other : List ℕ) → event ≡ Forget other → ⊥) → IsWellBook b → Keeps name below b → LivesFor name below b (bookstep refused b event).0
other_lives name below refused b event differs w k =
    let P : PlainBook × PlainAnswer → Type 0 = λ p. LivesFor name below b p.0 in
    let same : (next : PlainBook) → next.last_serial ≡ b.last_serial → IsLess below (less (given_up_for_room b next) below) = λ next e. gives_none below b next (none_for_room b next e) in
    step_cases P refused b event (record {
      stays = λ answer s i p e. same b refl;
      records = λ change s reply n acts room.
          window_lives name below b (with_moment b change (s, reply)) (new_moment b change s reply) (moment_grows b change s reply room) (recorded_well b w change s reply n acts) (omega arith) k;
      serves = λ change s reply n acts maps progs room.
          window_lives name below b (with_moment b change (s, reply)) (new_moment b change s reply) (moment_grows b change s reply room) (recorded_well b w change s reply n acts) (omega arith) k;
      marks = λ other is none e. same (with_mark b other) refl;
      undoes = λ count e. same (back_to b count) refl;
      undoes_last = λ any e. same (back_to b (length b.line.moments - 1)) refl;
      redoes = λ any e. same (brought_back b) refl;
      takes_out = λ serial s there r room.
          window_lives name below b (with_taken_out b serial (without serial (newest_force b.line.moments)) s) (taking_out b serial s) (taking_grows b serial s room) (taken_well b w serial s there r) (omega arith) k;
      forgets = λ other count is found none e. absurd (differs other is);
    })

step_lives : (name : List ℕ) (below : Pasts) (refused : Bool) (b : PlainBook) (event : PlainEvent) → IsWellBook b → Keeps name below b → let next : PlainBook = (bookstep refused b event).0 in
    is_some (moments_at name next.marks) ≡ true → IsLess below (less (moments_given_up b event next) below)
step_lives name below refused b (Forget other) w k = forget_lives name other below b w k (moments_at other b.marks)
step_lives name below refused b (Record change blank) w k = other_lives name below refused b (Record change blank) (λ other is. cc) w k
step_lives name below refused b (MarkEvent other) w k = other_lives name below refused b (MarkEvent other) (λ other is. cc) w k
step_lives name below refused b (UndoTo other) w k = other_lives name below refused b (UndoTo other) (λ other is. cc) w k
step_lives name below refused b UndoLast w k = other_lives name below refused b UndoLast (λ other is. cc) w k
step_lives name below refused b Redo w k = other_lives name below refused b Redo (λ other is. cc) w k
step_lives name below refused b (Without serial) w k = other_lives name below refused b (Without serial) (λ other is. cc) w k
step_lives name below refused b ListAll w k = other_lives name below refused b ListAll (λ other is. cc) w k
step_lives name below refused b (Ask question) w k = other_lives name below refused b (Ask question) (λ other is. cc) w k
step_lives name below refused b (Start device) w k = other_lives name below refused b (Start device) (λ other is. cc) w k
step_lives name below refused b (Serve prog access) w k = other_lives name below refused b (Serve prog access) (λ other is. cc) w k

-- ---- a run
run_lives : (name : List ℕ) (below : Pasts) (b : PlainBook) (events : List Given) → IsWellBook b → Keeps name below b → StandsThrough name b events → IsLess below (let_go (given_up_in b events) below)
run_lives name below b [] w k stands = itself below
run_lives name below b (given ∷ rest) w k stands =
    let next : PlainBook = (bookstep given.0 b given.1).0 in
    let up : Option ℕ = moments_given_up b given.1 next in
    let there : is_some (moments_at name next.marks) ≡ true = first_stands name next rest stands.1 in
    subst (IsLess below) (sym (let_go_first up (given_up_in next rest) below))
    (through below (less up below) (let_go (given_up_in next rest) (less up below)) (step_lives name below given.0 b given.1 w k there)
    (run_lives name (less up below) next rest (step_stays given.0 b given.1 w) (step_keeps name below given.0 b given.1 k there) stands.1))

pub returns_what_lived : (b : PlainBook) (before : List Given) (refused : Bool) (name : List ℕ) (after : List Given) → ReturnsWhatLived b before refused name after
returns_what_lived b before refused name after w made stands =
    let first : PlainBook = book_after b before in
    let noted : PlainBook = (bookstep refused first (MarkEvent name)).0 in
    let later : PlainBook = book_after b (before ++ (refused, MarkEvent name) ∷ after) in
    let back : ComesBack name (given_up_in noted after) first later = returns_to_mark b before refused name after made stands in
    let well : IsWellBook first = stays_well b before w in
    let lived : IsLess first.line (let_go (given_up_in noted after) first.line) = run_lives name first.line noted after (step_stays refused first (MarkEvent name) well) (made_keeps name first refused made) stands in
    let same : HasSameLive (now first.line) (now (undone_to later name).0.line) = subst (HasSameLive (now first.line)) (sym back.state) lived.lives in
    record {
      state = same;
      answers = answers_alike (now first.line) (now (undone_to later name).0.line) same;
      based = lived.based;
      force = lived.force ∙ ap (λ es. lived.based ++ es) (sym back.force);
    }

pub returns_what_lived_at_last : (b : PlainBook) (before : List Given) (refused : Bool) (name : List ℕ) (after : List Given) → ReturnsWhatLivedAtLast b before refused name after
returns_what_lived_at_last b before refused name after w made last stands =
    let noted : PlainBook = (bookstep refused (book_after b before) (MarkEvent name)).0 in
    let whole : book_after b (before ++ (refused, MarkEvent name) ∷ after) ≡ book_after noted after = book_after-append b before ((refused, MarkEvent name) ∷ after) in
    returns_what_lived b before refused name after w made (stood_through name noted after last (ap (λ c. is_some (moments_at name c.marks)) (sym whole) ∙ stands))
