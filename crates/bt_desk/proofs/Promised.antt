-- The promises of the plain book, told of a desk's histories.
use Rattle.std.proofs.Common.{◌≡◌, ◌≢◌, ℕ, Bool, true, false, List, [], ◌∷◌, ◌++◌, map, IsTrue, Result, Ok, Err, Option, Some, None, refl, sym, ◌∙◌, ap, subst}
use Rattle.std.specs.Prelude.{is_some, if◌then◌else◌}
use Rattle.std.specs.List.{cons_option}
use Rattle.journal_model.specs.declared.faults.MarkFault.{MarkFault}
use Rattle.journal_model.specs.declared.faults.MarkFault.TheVariants.{BadName}
use Rattle.journal_model.specs.Book.{PlainBook, marked_unless}
use Rattle.journal_laws.specs.Headline.{TakesOneOut}
use Rattle.journal_laws.specs.Laws.{ComesBack, given_up_for_room, given_up_in, IsLastOfName}
use Rattle.journal_model.specs.Marks.{moments_at}
use Rattle.journal_model.specs.Run.{PlainEvent, PlainAnswer, Mark, Marked as PlainMarked, Given, event_of, bookstep, bookrun, book_after}
use Rattle.journal_model.specs.Well.{Each}
use Rattle.journal_laws.proofs.Alone.{takes_one_out_after, keeps_its_word}
use Rattle.journal_laws.proofs.Returning.{none_for_room, returns_to_last_mark}
use Rattle.bt_without.specs.declared.events.Answer.TheVariants.{Marked}
use Rattle.thread_lock.specs.History.{entry}
use Rattle.bt_desk.specs.Histories.{Call}
use Rattle.bt_desk.specs.Promises.{ReturnsToMarkOfAny, TakesOneOutBehind, KeepsItsWordBehind, RunKeepsItsWord}
use Rattle.bt_mapkind.specs.Seen.{Seen}
use Rattle.bt_without.specs.declared.events.Answer.{Answer}
use Rattle.bt_without.specs.declared.events.Event.{Event}
use Rattle.bt_desk.proofs.Runs.{Cut, cut, events_in, answers_in}

abbrev IsNoMark : List ℕ → PlainEvent → Type 0
IsNoMark name event = event ≢ Mark name

-- no event is a mark of the name, since no call is
not_named : (name : List ℕ) (given : List Given) (calls : List Call) → map event_of given ≡ events_in calls → Each (λ (call : Call). IsNoMark name call.event) calls → IsLastOfName name given
not_named name [] calls e h = tt
not_named name (g ∷ given) [] e h = absurd (let z : g.1 ∷ map event_of given ≡ [] = e in cc)
not_named name (g ∷ given) (call ∷ calls) e h =
    let z : g.1 ∷ map event_of given ≡ call.event ∷ events_in calls = e in
    let same : g.1 ≡ call.event = cc in
    let rest : map event_of given ≡ events_in calls = cc in
    (subst (IsNoMark name) (sym same) h.0, not_named name given calls rest h.1)

-- the events after a mark, and where it was made
record MarkCut (name : List ℕ) (behind : List Given) (at_mark : PlainBook) (after : List Call) : Type 0 where
  pub refused : Bool
  pub later : List Given
  pub whole : behind ≡ (refused, Mark name) ∷ later
  pub made : (bookstep refused at_mark (Mark name)).1 ≡ PlainMarked (Ok tt)
  pub events : map event_of later ≡ events_in after

mark_cut : (name : List ℕ) (by : ℕ) (behind : List Given) (at_mark left : PlainBook) (after : List Call) → map event_of behind ≡ events_in (entry by (Mark name) (Marked (Ok tt)) ∷ after)
    → bookrun at_mark behind ≡ (left, answers_in (entry by (Mark name) (Marked (Ok tt)) ∷ after)) → MarkCut name behind at_mark after
mark_cut name by [] at_mark left after e r = absurd (let z : [] ≡ Mark name ∷ events_in after = e in cc)
mark_cut name by (g ∷ later) at_mark left after e r =
    let z : g.1 ∷ map event_of later ≡ Mark name ∷ events_in after = e in
    let same : g.1 ≡ Mark name = cc in
    let one : PlainBook × PlainAnswer = bookstep g.0 at_mark g.1 in
    let more : PlainBook × List PlainAnswer = bookrun one.0 later in
    let told : one.1 ∷ more.1 ≡ PlainMarked (Ok tt) ∷ answers_in after = ap (λ (m : PlainBook × List PlainAnswer). m.1) r in
    let first : one.1 ≡ PlainMarked (Ok tt) = cc in
    record {
      refused = g.0;
      later = later;
      whole = ap (λ (event : PlainEvent). let given : Given = (g.0, event) in given ∷ later) same;
      made = ap (λ event. (bookstep g.0 at_mark event).1) (sym same) ∙ first;
      events = cc;
    }

-- a mark records no moment, so no moment is given up for it
mark_gives_nothing_up : (refused : Bool) (b : PlainBook) (name : List ℕ) → given_up_for_room b (bookstep refused b (Mark name)).0 ≡ None
mark_gives_nothing_up refused b name = none_for_room b (bookstep refused b (Mark name)).0 (told refused)
  where
    unless : (o : Option ℕ) → (marked_unless o b name).0.last_serial ≡ b.last_serial
    unless (Some moments) = refl
    unless None = refl

    either : (bad : Bool) (x y : PlainBook × Result (Unit {0}) MarkFault) → x.0.last_serial ≡ b.last_serial → y.0.last_serial ≡ b.last_serial → (if bad then x else y).0.last_serial ≡ b.last_serial
    either true x y p q = p
    either false x y p q = q

    told : (refused : Bool) → (bookstep refused b (Mark name)).0.last_serial ≡ b.last_serial
    told true = refl
    told false = either _ (b, Err BadName) (marked_unless (moments_at name b.marks) b name) refl (unless (moments_at name b.marks))

pub returns_to_mark_of_any : (opened : PlainBook) (before : List Call) (by : ℕ) (name : List ℕ) (after : List Call) (left : PlainBook) → ReturnsToMarkOfAny opened before by name after left
returns_to_mark_of_any opened before by name after left r none stands =
    let marked : Call = entry by (Mark name) (Marked (Ok tt)) in
    let halves : Cut r.given opened left before (marked ∷ after) = cut r.given opened left before (marked ∷ after) r.events r.run in
    let at : MarkCut name halves.behind halves.mid after = mark_cut name by halves.behind halves.mid left after halves.events_behind halves.run_behind in
    let earlier : book_after opened halves.ahead ≡ halves.mid = ap (λ (m : PlainBook × List PlainAnswer). m.0) halves.run_ahead in
    let whole : r.given ≡ halves.ahead ++ (at.refused, Mark name) ∷ at.later = halves.whole ∙ ap (λ gs. halves.ahead ++ gs) at.whole in
    let later : book_after opened (halves.ahead ++ (at.refused, Mark name) ∷ at.later) ≡ left = ap (book_after opened) (sym whole) ∙ ap (λ (m : PlainBook × List PlainAnswer). m.0) r.run in
    let gone : PlainBook → List ℕ = λ b. given_up_in (bookstep at.refused b (Mark name)).0 at.later in
    let all_gone : given_up_in halves.mid ((at.refused, Mark name) ∷ at.later) ≡ gone halves.mid =
    ap (λ up. cons_option up (gone halves.mid)) (mark_gives_nothing_up at.refused halves.mid name) in
    let back : ComesBack name (gone (book_after opened halves.ahead)) (book_after opened halves.ahead) (book_after opened (halves.ahead ++ (at.refused, Mark name) ∷ at.later)) =
    returns_to_last_mark opened halves.ahead at.refused name at.later
    (ap (λ b. (bookstep at.refused b (Mark name)).1) earlier ∙ at.made)
    (not_named name at.later after at.events none)
    (subst (λ (b : PlainBook). IsTrue (is_some (moments_at name b.marks))) (sym later) stands) in
    record {
      at_mark = halves.mid;
      runs = record { given = halves.ahead; events = halves.events_ahead; run = halves.run_ahead };
      behind = record { given = halves.behind; events = halves.events_behind; run = halves.run_behind };
      back = subst (λ gs. ComesBack name (given_up_in halves.mid gs) halves.mid left) (sym at.whole)
          (subst (λ up. ComesBack name up halves.mid left) (sym all_gone)
          (subst (λ b. ComesBack name (gone halves.mid) halves.mid b) later
          (subst (λ b. ComesBack name (gone b) b (book_after opened (halves.ahead ++ (at.refused, Mark name) ∷ at.later))) earlier back)));
    }

pub takes_one_out_behind : (opened : PlainBook) (history : List Call) (left : PlainBook) (serial : ℕ) → TakesOneOutBehind opened history left serial
takes_one_out_behind opened history left serial well r =
    subst (λ b. TakesOneOut b serial) (ap (λ (m : PlainBook × List PlainAnswer). m.0) r.run) (takes_one_out_after opened r.given serial well)

-- the book that a list of events leads to
led : (from to : PlainBook) (given : List Given) (answers : List PlainAnswer) → bookrun from given ≡ (to, answers) → to ≡ book_after from given
led from to given answers run = sym (ap (λ (m : PlainBook × List PlainAnswer). m.0) run)

pub keeps_its_word_behind : (opened : PlainBook) (history : List Call) (left : PlainBook) → KeepsItsWordBehind opened history left
keeps_its_word_behind opened history left well runs = (keeps_its_word opened runs.given well, led opened left runs.given _ runs.run)

pub run_keeps_its_word : {K : Type 0} (seen : K → Seen) (old : PlainBook) (events : List (Event K)) (answers : List Answer) (new : PlainBook) → RunKeepsItsWord seen old events answers new
run_keeps_its_word seen old events answers new well ran = (keeps_its_word old ran.given well, led old new ran.given _ ran.run)
