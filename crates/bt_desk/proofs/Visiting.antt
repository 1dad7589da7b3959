-- Visits of a desk, told without references.
use Rattle.std.proofs.Common.{◌≡◌, ◌++◌, refl, sym, Result, Ok, Err, subst}
use Rattle.std.specs.Prelude.{IfOk}
use Rattle.std.specs.Borrow.{MutBor}
use Rattle.std.specs.Fn.{Once}
use Rattle.thread_lock.specs.declared.sequential.Sequential.{Ghosts}
use Rattle.thread_lock.specs.declared.seat.Seat.{Seat}
use Rattle.thread_lock.specs.History.{Leads}
use Rattle.thread_lock.specs.Seats.{Called, seen}
use Rattle.thread_lock.specs.Visits.{Does}
use Rattle.journal_model.specs.Book.{PlainBook}
use Rattle.journal_model.specs.Run.{PlainEvent, PlainAnswer, Given, bookstep}
use Rattle.journal_model.specs.Run as plain
use Rattle.bt_without.specs.Events.{answer_of}
use Rattle.bt_without.specs.declared.events.Answer.{Answer}
use Rattle.bt_without.specs.declared.events.Answer.TheVariants as told
use Rattle.bt_desk.specs.declared.desk.Desk.{Desk}
use Rattle.bt_desk.specs.Events.{Steps, IsOneEvent}
use Rattle.bt_desk.specs.Seats.{opened}
use Rattle.bt_desk.specs.Visits.{VisitedAt}
use Rattle.bt_desk.proofs.Runs.{leads_runs}

-- a fact of what a result holds, by another
pub if_ok : {A E : Type 0} (P Q : A → Type 0) (r : Result A E) → ((a : A) → P a → Q a) → IfOk r P → IfOk r Q
if_ok P Q (Ok a) f p = f a p
if_ok P Q (Err e) f p = tt

-- what holds of each call of a function by what its references lead to holds of the one that a visit made
pub does_so : {F S J T : Type 0} (g : Once F (MutBor S × (MutBor J × Unit {0})) (T × (MutBor S × (MutBor J × Unit {0})))) (f : F) (job : J) (told : T) (job' : J) (before after : S) (P : J → S → T → S → J → Type 0)
    → ((shown left : MutBor S) (handed returned : MutBor J) → g.post f (shown, (handed, tt)) (told, (left, (returned, tt))) → P handed.now shown.now told left.now returned.now)
    → Does g f job told job' before after → P job before told after job'
does_so g f job told job' before after P says d =
    subst (λ x. P x before told after job') d.hands
    (subst (λ x. P d.handed.now x told after job') d.shows
    (subst (λ x. P d.handed.now d.shown.now told x job') d.leaves
    (subst (λ x. P d.handed.now d.shown.now told d.left.now x) d.gives
    (says d.shown d.left d.handed d.returned d.met))))

-- each answer of the plain book is one that a desk gives
as_told : (answer : PlainAnswer) → (it : Answer) × (answer ≡ answer_of it)
as_told (plain.Recorded it) = (told.Recorded it, refl)
as_told (plain.Marked it) = (told.Marked it, refl)
as_told (plain.UndoneTo it) = (told.UndoneTo it, refl)
as_told (plain.UndoneLast it) = (told.UndoneLast it, refl)
as_told (plain.Redone it) = (told.Redone it, refl)
as_told (plain.TakenOut it) = (told.TakenOut it, refl)
as_told (plain.Forgot it) = (told.Forgot it, refl)
as_told (plain.Listed it) = (told.Listed it, refl)
as_told (plain.Asked it) = (told.Asked it, refl)
as_told (plain.Started it) = (told.Started it, refl)
as_told (plain.Served it) = (told.Served it, refl)

-- what an event of the plain book leads to, one of the desk does
pub is_one_event : (before after : PlainBook) (given : Given) → after ≡ (bookstep given.0 before given.1).0 → IsOneEvent before after
is_one_event before after given is =
    let it = as_told (bookstep given.0 before given.1).1 in
    (given.1, it.0, (given.0, λ i. (sym is i, it.1 i)))

module _ {K : Type 0} {g : Ghosts PlainBook PlainEvent Answer} (desk : Desk K) (did : PlainBook → PlainBook → Type 0) (old new : Seat PlainBook PlainEvent Answer g) where
  -- a visit of the turns is one of the desk
  pub visited_at : (event : PlainEvent) (answer : Answer) (called : Called old event answer new) (before after : PlainBook) → Leads Steps (opened desk) (seen old ++ called.between) before → Steps before event answer after → did before after
      → VisitedAt desk did old new
  visited_at event answer called before after found does went = record {
    event = event;
    answer = answer;
    called = called;
    before = before;
    after = after;
    found = leads_runs (opened desk) before (seen old ++ called.between) found;
    does = does;
    went = went;
  }
