-- Undoing to a mark that stands gives the moments of when it was made.
use Rattle.std.proofs.Common.{◌≡◌, ◌≢◌, ℕ, ◌+◌, ◌-◌, ◌<◌, ◌≤◌, Bool, true, false, cond, not, List, [], ◌∷◌, ◌++◌, length, take, drop, refl, sym, ◌∙◌, ap, subst, arith}
use Rattle.std.specs.List.{cons_option}
use Rattle.std.specs.Prelude.{◌&&◌, nat_le, nat_lt, is_some, is_ok, Result, Ok, Err, Option, Some, None}
use Rattle.std.proofs.lemmas.Bool.{le-ltb, lt-ltb, lt-leb}
use Rattle.std.proofs.lemmas.List.{append_assoc, drop-append-le, length-append}
use Rattle.std.proofs.Math.Seq.{drop-append_seam}
use Rattle.host_words.specs.Spelling.{is_name}
use Rattle.journal_model.specs.declared.faults.MarkFault.{MarkFault}
use Rattle.journal_model.specs.declared.faults.MarkFault.TheVariants.{BadName}
use Rattle.journal_model.specs.declared.faults.ForgetFault.{ForgetFault}
use Rattle.journal_model.specs.declared.limits.Limits.{Limits}
use Rattle.journal_model.specs.Plain.{Past, Pasts, newest_state, newest_force}
use Rattle.journal_model.specs.Marks.{Mark, moments_at, marks_from}
use Rattle.journal_model.specs.Book.{PlainBook, is_full, folded, within_window, with_moment, with_mark, marked_unless, back_to, brought_back, undone_from, undone_to}
use Rattle.journal_model.specs.Without.{with_taken_out}
use Rattle.journal_model.specs.Force.{without}
use Rattle.journal_model.specs.Forget.{based_at, forgotten_unless, forgotten_from}
use Rattle.journal_model.specs.Rebase.{advanced, still_taken_out}
use Rattle.journal_model.specs.Run.{PlainEvent, PlainAnswer, Record, Mark as MarkEvent, UndoTo, UndoLast, Redo, Without, Forget, ListAll, Ask, Start, Serve, Marked, Given, bookstep, book_after}
use Rattle.journal_model.specs.Well.{Each}
use Rattle.journal_laws.specs.Laws.{StandsThrough, given_up_for_room, moments_given_up, given_up_in, let_go, ComesBack, ReturnsToMark, IsLastOfName, ReturnsToLastMark}
use Rattle.journal_model.proofs.Lists.{Each-append, Each-filter}
use Rattle.journal_invariant.proofs.Advanced.{moments_left, LiesOn, lies_advanced}
use Rattle.journal_invariant.proofs.Windowed.{Grows, moment_grows, taking_grows, window_cases, was_full}
use Rattle.journal_model.proofs.Cases.{new_moment, taking_out, step_cases}
use Rattle.journal_model.proofs.Running.{book_after-append}
use Rattle.journal_laws.proofs.Marking.{IsAt, found_at, found_below, found_from, at_from, other_mark, none_named, found_last, stood, stood_all, stood_from}

-- the moments of when a mark was made lie below those that came since
pub record Keeps (name : List ℕ) (below : Pasts) (b : PlainBook) : Type 0 where
  pub at : Each (IsAt name (length below.moments)) b.marks
  pub stands : is_some (moments_at name b.marks) ≡ true
  pub lies : LiesOn below b.line

-- ---- an event
undone_keeps : (name : List ℕ) (below : Pasts) (b : PlainBook) → Keeps name below b → (count : ℕ) → is_some (moments_at name (back_to b count).marks) ≡ true → Keeps name below (back_to b count)
undone_keeps name below b k count stands =
    let low : length below.moments ≤ count = found_below name (length below.moments) count b.marks k.at stands in
    let past : ℕ = length b.line.moments - count in
    let long : length b.line.moments ≡ length k.lies.since + length below.moments = ap length k.lies.moments ∙ length-append k.lies.since below.moments in
    record {
      at = Each-filter (IsAt name (length below.moments)) (λ (m : Mark). nat_le m.moments count) b.marks k.at;
      stands = stands;
      lies = record { base = k.lies.base; since = drop past k.lies.since; moments = ap (drop past) k.lies.moments ∙ drop-append-le past k.lies.since below.moments (omega arith) };
    }

-- one more moment
one_lies : (below : Pasts) (b c : PlainBook) (m : Past) → LiesOn below b.line → c.line.base ≡ b.line.base → c.line.moments ≡ m ∷ b.line.moments → LiesOn below c.line
one_lies below b c m l base moments = record { base = base ∙ l.base; since = m ∷ l.since; moments = moments ∙ ap (λ ms. m ∷ ms) l.moments }

-- the mark of another name that is given up to is no later
based_keeps : (name : List ℕ) (below : Pasts) (b : PlainBook) → Keeps name below b → (count : ℕ) → is_some (moments_at name (marks_from count b.marks)) ≡ true → Keeps name (advanced count below) (based_at b count)
based_keeps name below b k count stands =
    let low : count ≤ length below.moments = found_from name (length below.moments) count b.marks k.at stands in
    record {
      at = subst (λ n. Each (IsAt name n) (marks_from count b.marks)) (sym (moments_left count below)) (at_from name (length below.moments) count b.marks k.at);
      stands = stands;
      lies = lies_advanced count below b.line low k.lies;
    }

-- what an event gives up, as the line of the mark
abbrev pub less : Option ℕ → Pasts → Pasts
less None p = p
less (Some count) p = advanced count p

forget_keeps : (name other : List ℕ) (below : Pasts) (b : PlainBook) → Keeps name below b → (o : Option ℕ) → let made : PlainBook × Result (Unit {0}) ForgetFault = forgotten_from b other o in
    is_some (moments_at name made.0.marks) ≡ true → Keeps name (less (cond (is_ok made.1) o None) below) made.0
forget_keeps name other below b k None e = k
forget_keeps name other below b k (Some count) e = unless (still_taken_out count b.line) e
  where
    unless : (taken : Option ℕ) → let made : PlainBook × Result (Unit {0}) ForgetFault = forgotten_unless taken b count in
        is_some (moments_at name made.0.marks) ≡ true → Keeps name (less (cond (is_ok made.1) (Some count) None) below) made.0
    unless (Some serial) e = k
    unless None e = based_keeps name below b k count e

-- ---- one moment more, in the window
-- nothing is given up for room if no serial was given, or if there was room
pub none_for_room : (b next : PlainBook) → next.last_serial ≡ b.last_serial → given_up_for_room b next ≡ None
none_for_room b next same = by (is_full b) (nat_lt b.last_serial next.last_serial) (le-ltb b.last_serial next.last_serial (omega arith))
  where
    by : (full rises : Bool) → rises ≡ false → (let one : Option ℕ = Some 1 in cond (full && rises) one None) ≡ None
    by true rises e = ap (λ t. let one : Option ℕ = Some 1 in cond t one None) e
    by false rises e = refl

pub none_with_room : (b next : PlainBook) → is_full b ≡ false → given_up_for_room b next ≡ None
none_with_room b next e = ap (λ t. let one : Option ℕ = Some 1 in cond (t && nat_lt b.last_serial next.last_serial) one None) e

pub one_for_room : (b next : PlainBook) → is_full b ≡ true → b.last_serial < next.last_serial → given_up_for_room b next ≡ Some 1
one_for_room b next full rises =
    ap (λ t. let one : Option ℕ = Some 1 in cond (t && nat_lt b.last_serial next.last_serial) one None) full ∙ ap (λ t. let one : Option ℕ = Some 1 in cond t one None) (lt-ltb b.last_serial next.last_serial rises)

-- what it gave up is what was given up of the line below
abbrev KeepsFor : List ℕ → Pasts → PlainBook → PlainBook → Type 0
KeepsFor name below b next = is_some (moments_at name next.marks) ≡ true → Keeps name (less (given_up_for_room b next) below) next

gives_none : (name : List ℕ) (below : Pasts) (b next : PlainBook) → given_up_for_room b next ≡ None → Keeps name below next → Keeps name (less (given_up_for_room b next) below) next
gives_none name below b next none k = subst (λ o. Keeps name (less o below) next) (sym none) k

pub grown_keeps : (name : List ℕ) (below : Pasts) (b c : PlainBook) (m : Past) → Grows b c m → Keeps name below b → is_some (moments_at name c.marks) ≡ true → Keeps name below c
grown_keeps name below b c m g k stands = record {
  at = subst (Each (IsAt name (length below.moments))) (sym g.marks) k.at;
  stands = stands;
  lies = record { base = ap (λ (p : Pasts). p.base) g.line ∙ k.lies.base; since = m ∷ k.lies.since; moments = ap (λ (p : Pasts). p.moments) g.line ∙ ap (λ ms. m ∷ ms) k.lies.moments };
}

-- it was full, or it was not
pub not_full : (b c : PlainBook) (m : Past) → Grows b c m → length c.line.moments ≤ c.limits.journal → is_full b ≡ false
not_full b c m g few =
    let one : length c.line.moments ≡ length b.line.moments + 1 = ap (λ (p : Pasts). length p.moments) g.line ∙ omega arith in
    let same : c.limits.journal ≡ b.limits.journal = ap (λ (limits : Limits). limits.journal) g.limits in
    lt-leb b.limits.journal (length b.line.moments) (omega (arith, few, one, same))

folded_keeps : (name : List ℕ) (below : Pasts) (c : PlainBook) → Keeps name below (based_at c 1) → Keeps name below (folded c)
folded_keeps name below c k = record { at = k.at; stands = k.stands; lies = k.lies }

window_keeps : (name : List ℕ) (below : Pasts) (b c : PlainBook) (m : Past) → Grows b c m → b.last_serial < c.last_serial → Keeps name below b → KeepsFor name below b (within_window c)
window_keeps name below b c m g rises k = window_cases (KeepsFor name below b) c
    (λ few stands. gives_none name below b c (none_with_room b c (not_full b c m g few)) (grown_keeps name below b c m g k stands))
    (λ long stands.
    let kc : Keeps name below c = grown_keeps name below b c m g k (stood_from name 1 c.marks stands) in
    subst (λ o. Keeps name (less o below) (folded c)) (sym (one_for_room b (folded c) (was_full b c m g long) rises)) (folded_keeps name (advanced 1 below) c (based_keeps name below c kc 1 stands)))

-- any other event
other_keeps : (name : List ℕ) (below : Pasts) (refused : Bool) (b : PlainBook) (event : PlainEvent) → ((other : List ℕ) → event ≡ Forget other → ⊥) → Keeps name below b → KeepsFor name below b (bookstep refused b event).0
other_keeps name below refused b event differs k =
    let P : PlainBook × PlainAnswer → Type 0 = λ p. KeepsFor name below b p.0 in
    let same : (next : PlainBook) → next.last_serial ≡ b.last_serial → Keeps name below next → Keeps name (less (given_up_for_room b next) below) next = λ next e. gives_none name below b next (none_for_room b next e) in
    step_cases P refused b event (record {
      stays = λ answer s i p e. same b refl k;
      records = λ change s reply n acts room. window_keeps name below b (with_moment b change (s, reply)) (new_moment b change s reply) (moment_grows b change s reply room) (omega arith) k;
      serves = λ change s reply n acts maps progs room. window_keeps name below b (with_moment b change (s, reply)) (new_moment b change s reply) (moment_grows b change s reply room) (omega arith) k;
      marks = λ other is none e. same (with_mark b other) refl (record {
        at = Each-append (IsAt name (length below.moments)) b.marks _ k.at (other_mark name other (length below.moments) (length b.line.moments) b.marks k.stands none, tt);
        stands = e;
        lies = k.lies;
      });
      undoes = λ count e. same (back_to b count) refl (undone_keeps name below b k count e);
      undoes_last = λ any e. same (back_to b (length b.line.moments - 1)) refl (undone_keeps name below b k (length b.line.moments - 1) e);
      redoes = λ any e. same (brought_back b) refl (record {
        at = k.at;
        stands = e;
        lies = record {
          base = k.lies.base;
          since = take 1 b.line.undone ++ k.lies.since;
          moments = ap (λ ms. take 1 b.line.undone ++ ms) k.lies.moments ∙ sym (append_assoc (take 1 b.line.undone) k.lies.since below.moments);
        };
      });
      takes_out = λ serial s there r room.
          window_keeps name below b (with_taken_out b serial (without serial (newest_force b.line.moments)) s) (taking_out b serial s) (taking_grows b serial s room) (omega arith) k;
      forgets = λ other count is found none e. absurd (differs other is);
    })

pub step_keeps : (name : List ℕ) (below : Pasts) (refused : Bool) (b : PlainBook) (event : PlainEvent) → Keeps name below b → let next : PlainBook = (bookstep refused b event).0 in
    is_some (moments_at name next.marks) ≡ true → Keeps name (less (moments_given_up b event next) below) next
step_keeps name below refused b (Forget other) k = forget_keeps name other below b k (moments_at other b.marks)
step_keeps name below refused b (Record change blank) k = other_keeps name below refused b (Record change blank) (λ other is. cc) k
step_keeps name below refused b (MarkEvent other) k = other_keeps name below refused b (MarkEvent other) (λ other is. cc) k
step_keeps name below refused b (UndoTo other) k = other_keeps name below refused b (UndoTo other) (λ other is. cc) k
step_keeps name below refused b UndoLast k = other_keeps name below refused b UndoLast (λ other is. cc) k
step_keeps name below refused b Redo k = other_keeps name below refused b Redo (λ other is. cc) k
step_keeps name below refused b (Without serial) k = other_keeps name below refused b (Without serial) (λ other is. cc) k
step_keeps name below refused b ListAll k = other_keeps name below refused b ListAll (λ other is. cc) k
step_keeps name below refused b (Ask question) k = other_keeps name below refused b (Ask question) (λ other is. cc) k
step_keeps name below refused b (Start device) k = other_keeps name below refused b (Start device) (λ other is. cc) k
step_keeps name below refused b (Serve prog access) k = other_keeps name below refused b (Serve prog access) (λ other is. cc) k

-- ---- a run
pub first_stands : (name : List ℕ) (c : PlainBook) (events : List Given) → StandsThrough name c events → is_some (moments_at name c.marks) ≡ true
first_stands name c [] s = s
first_stands name c (e ∷ es) s = s.0

pub let_go_first : (o : Option ℕ) (counts : List ℕ) (p : Pasts) → let_go (cons_option o counts) p ≡ let_go counts (less o p)
let_go_first None counts p = refl
let_go_first (Some count) counts p = refl

pub run_keeps : (name : List ℕ) (below : Pasts) (b : PlainBook) (events : List Given) → Keeps name below b → StandsThrough name b events → Keeps name (let_go (given_up_in b events) below) (book_after b events)
run_keeps name below b [] k stands = k
run_keeps name below b (given ∷ rest) k stands =
    let next : PlainBook = (bookstep given.0 b given.1).0 in
    let up : Option ℕ = moments_given_up b given.1 next in
    subst (λ p. Keeps name p (book_after next rest)) (sym (let_go_first up (given_up_in next rest) below))
    (run_keeps name (less up below) next rest (step_keeps name below given.0 b given.1 k (first_stands name next rest stands.1)) stands.1)

-- the undo to the mark
come_back : (name : List ℕ) (gone : List ℕ) (earlier later : PlainBook) → Keeps name (let_go gone earlier.line) later → ComesBack name gone earlier later
come_back name gone earlier later k = found (moments_at name later.marks) refl
  where
    line : Pasts
    line = let_go gone earlier.line

    found : (o : Option ℕ) → moments_at name later.marks ≡ o → ComesBack name gone earlier later
    found None e = let missing : is_some (moments_at name later.marks) ≡ false = ap is_some e in let there : is_some (moments_at name later.marks) ≡ true = k.stands in cc
    found (Some count) e =
        let same : count ≡ length line.moments = found_at name (length line.moments) count later.marks k.at e in
        let long : length later.line.moments ≡ length k.lies.since + length line.moments = ap length k.lies.moments ∙ length-append k.lies.since line.moments in
        let past : length later.line.moments - count ≡ length k.lies.since = omega arith in
        let cut_to : drop (length later.line.moments - count) later.line.moments ≡ line.moments =
        ap (λ n. drop n later.line.moments) past ∙ ap (drop (length k.lies.since)) k.lies.moments ∙ drop-append_seam k.lies.since line.moments in
        let done : undone_to later name ≡ undone_from later name (Some count) = ap (undone_from later name) e in
        record {
          undone = length later.line.moments - count;
          accepted = ap (λ made. made.1) done;
          state = ap (λ made. newest_state made.0.line.base made.0.line.moments) done ∙ ap (newest_state later.line.base) cut_to ∙ ap (λ s. newest_state s line.moments) k.lies.base;
          force = ap (λ made. newest_force made.0.line.moments) done ∙ ap newest_force cut_to;
          moments = ap (λ made. made.0.line.moments) done ∙ cut_to;
        }

-- ---- the making of the mark
made_unless : (name : List ℕ) (b : PlainBook) (o : Option ℕ) → moments_at name b.marks ≡ o → Marked (marked_unless o b name).1 ≡ Marked (Ok tt) → Keeps name b.line (marked_unless o b name).0
made_unless name b (Some n) found e = cc
made_unless name b None none e = record {
  at = Each-append (IsAt name (length b.line.moments)) b.marks _ (none_named name (length b.line.moments) b.marks none) ((λ same. refl), tt);
  stands = found_last name (length b.line.moments) b.marks;
  lies = record { base = refl; since = []; moments = refl };
}

pub made_keeps : (name : List ℕ) (b : PlainBook) (refused : Bool) → (bookstep refused b (MarkEvent name)).1 ≡ Marked (Ok tt) → Keeps name b.line (bookstep refused b (MarkEvent name)).0
made_keeps name b true e = cc
made_keeps name b false e = named (is_name name) e
  where
    named : (good : Bool) → let made : PlainBook × Result (Unit {0}) MarkFault = cond (not good) (b, Err BadName) (marked_unless (moments_at name b.marks) b name) in
        Marked made.1 ≡ Marked (Ok tt) → Keeps name b.line made.0
    named true f = made_unless name b (moments_at name b.marks) refl f
    named false f = cc

pub returns_to_mark : (b : PlainBook) (before : List Given) (refused : Bool) (name : List ℕ) (after : List Given) → ReturnsToMark b before refused name after
returns_to_mark b before refused name after made stands =
    let earlier : PlainBook = book_after b before in
    let noted : PlainBook = (bookstep refused earlier (MarkEvent name)).0 in
    subst (ComesBack name (given_up_in noted after) earlier) (sym (book_after-append b before ((refused, MarkEvent name) ∷ after)))
    (come_back name (given_up_in noted after) earlier (book_after noted after) (run_keeps name earlier.line noted after (made_keeps name earlier refused made) stands))

-- ---- the last mark of a name
stood_window : (name : List ℕ) (b c : PlainBook) → c.marks ≡ b.marks → is_some (moments_at name (within_window c).marks) ≡ true → is_some (moments_at name b.marks) ≡ true
stood_window name b c same =
    let before : is_some (moments_at name c.marks) ≡ true → is_some (moments_at name b.marks) ≡ true = λ e. ap (λ marks. is_some (moments_at name marks)) (sym same) ∙ e in
    window_cases (λ (d : PlainBook). is_some (moments_at name d.marks) ≡ true → is_some (moments_at name b.marks) ≡ true) c (λ few. before) (λ long e. before (stood_from name 1 c.marks e))

stood_before : (name : List ℕ) (refused : Bool) (b : PlainBook) (event : PlainEvent) → event ≢ MarkEvent name → is_some (moments_at name (bookstep refused b event).0.marks) ≡ true → is_some (moments_at name b.marks) ≡ true
stood_before name refused b event differs =
    let P : PlainBook × PlainAnswer → Type 0 = λ p. is_some (moments_at name p.0.marks) ≡ true → is_some (moments_at name b.marks) ≡ true in
    step_cases P refused b event (record {
      stays = λ answer s i p e. e;
      records = λ change s reply n acts room. stood_window name b (with_moment b change (s, reply)) refl;
      serves = λ change s reply n acts maps progs room. stood_window name b (with_moment b change (s, reply)) refl;
      marks = λ other is none e. stood name other (length b.line.moments) b.marks (λ same. differs (is ∙ ap MarkEvent same)) e;
      undoes = λ count e. stood_all name count b.marks e;
      undoes_last = λ any e. stood_all name (length b.line.moments - 1) b.marks e;
      redoes = λ any e. e;
      takes_out = λ serial s there r room. stood_window name b (with_taken_out b serial (without serial (newest_force b.line.moments)) s) refl;
      forgets = λ other count is found none e. stood_from name count b.marks e;
    })

pub stood_through : (name : List ℕ) (b : PlainBook) (events : List Given) → IsLastOfName name events → is_some (moments_at name (book_after b events).marks) ≡ true → StandsThrough name b events
stood_through name b [] last e = e
stood_through name b (given ∷ rest) last e =
    let next : PlainBook = (bookstep given.0 b given.1).0 in
    let later : StandsThrough name next rest = stood_through name next rest last.1 e in
    (stood_before name given.0 b given.1 last.0 (first_stands name next rest later), later)

pub returns_to_last_mark : (b : PlainBook) (before : List Given) (refused : Bool) (name : List ℕ) (after : List Given) → ReturnsToLastMark b before refused name after
returns_to_last_mark b before refused name after made last stands =
    let earlier : PlainBook = book_after b before in
    let whole : book_after b (before ++ (refused, MarkEvent name) ∷ after) ≡ book_after (bookstep refused earlier (MarkEvent name)).0 after = book_after-append b before ((refused, MarkEvent name) ∷ after) in
    returns_to_mark b before refused name after made
    (stood_through name (bookstep refused earlier (MarkEvent name)).0 after last (ap (λ c. is_some (moments_at name c.marks)) (sym whole) ∙ stands))
