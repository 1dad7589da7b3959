-- An event has one reading as the plain book's, and its box one blank.
use Rattle.std.proofs.Common.{◌≡◌, ◌↔◌, ℕ, Bool, true, false, IsTrue, List, Option, Some, None, Result, refl, sym, ◌∙◌, ap}
use Rattle.bt_verify.specs.Program.{ProgramView}
use Rattle.program_access.specs.declared.access.Access.{Access}
use Rattle.program_access.specs.declared.reply.AccessReply.{AccessReply}
use Rattle.bt_mapkind.specs.Seen.{Seen}
use Rattle.journal_model.specs.Blank.{Blank, IsBlankOf}
use Rattle.journal_model.specs.Book.{PlainBook, OrNoMemory}
use Rattle.journal_model.specs.Serve.{started, served, want_told, OrWant}
use Rattle.journal_model.specs.declared.faults.StartFault.{StartFault}
use Rattle.journal_model.specs.declared.faults.StartFault.TheVariants.{NoMemory}
use Rattle.journal_model.specs.Run.{PlainEvent, Record as PlainRecord, Start as PlainStart, Serve as PlainServe, Started as PlainStarted, Served as PlainServed, answers_as, bookstep, event_of}
use Rattle.bt_without.specs.Recording.{AreBlanks}
use Rattle.bt_without.specs.Events.{IsEvent, IsStep}
use Rattle.bt_without.specs.declared.events.Answer.{Answer}
use Rattle.bt_without.specs.declared.events.Answer.TheVariants.{Started, Served}
use Rattle.bt_without.specs.declared.events.Event.{Event}
use Rattle.bt_without.specs.declared.events.Event.TheVariants.{Record, Mark, UndoTo, UndoLast, Redo, Without, Forget, List as ListAll, Ask, Start, Serve}
use Rattle.bt_desk.specs.Events.{Steps}

same_test : {P : Type 0} (a b : Bool) → (IsTrue a ↔ P) → (IsTrue b ↔ P) → a ≡ b
same_test true true f g = refl
same_test false false f g = refl
same_test true false f g = absurd (let z : false ≡ true = g.1 (f.0 refl) in cc)
same_test false true f g = absurd (let z : false ≡ true = f.1 (g.0 refl) in cc)

same_blank : (seen : Seen) (a b : Blank) → IsBlankOf seen a → IsBlankOf seen b → a ≡ b
same_blank seen a b f g =
    let make = f.make ∙ sym g.make in
    let fresh = same_test a.fresh b.fresh f.fresh g.fresh in
    λ i. record { make = make i; fresh = fresh i }

same_blanks : {K : Type 0} (seen : K → Seen) (box : Option K) (a b : Option Blank) → AreBlanks seen box a → AreBlanks seen box b → a ≡ b
same_blanks seen None None None f g = refl
same_blanks seen None None (Some b) f g = absurd g
same_blanks seen None (Some a) b f g = absurd f
same_blanks seen (Some kind) None b f g = absurd f
same_blanks seen (Some kind) (Some a) None f g = absurd g
same_blanks seen (Some kind) (Some a) (Some b) f g = ap Some (same_blank (seen kind) a b f g)

same_event : {K : Type 0} (seen : K → Seen) (event : Event K) (p q : PlainEvent) → IsEvent seen event p → IsEvent seen event q → p ≡ q
same_event seen (Record change blank) p q f g = f.2 ∙ ap (PlainRecord change) (same_blanks seen blank f.0 g.0 f.1 g.1) ∙ sym g.2
same_event seen (Mark name) p q f g = f ∙ sym g
same_event seen (UndoTo name) p q f g = f ∙ sym g
same_event seen UndoLast p q f g = f ∙ sym g
same_event seen Redo p q f g = f ∙ sym g
same_event seen (Without serial) p q f g = f ∙ sym g
same_event seen (Forget name) p q f g = f ∙ sym g
same_event seen ListAll p q f g = f ∙ sym g
same_event seen (Ask question) p q f g = f ∙ sym g
same_event seen (Start device) p q f g = f ∙ sym g
same_event seen (Serve prog access) p q f g = f ∙ sym g

-- a step of the book is one of the event as it is read
pub steps_as : {K : Type 0} (seen : K → Seen) (event : Event K) (plain : PlainEvent) (before after : PlainBook) (answer : Answer) → IsEvent seen event plain → IsStep seen before event answer after → Steps before plain answer after
steps_as seen event plain before after answer is does =
    (does.given.0, ap (bookstep does.given.0 before) (same_event seen event plain (event_of does.given) is does.event_is) ∙ does.does)

-- ---- what is lent
-- a start and an access of the book are steps of their events
pub starts : (before after : PlainBook) (device : List ℕ) (picked : Result (Option (ProgramView × ℕ)) StartFault) → OrNoMemory before NoMemory (before, started before device) (after, picked) → Steps before (PlainStart device) (Started picked) after
starts before after device picked (true, e) = (true, ap (answers_as PlainStarted) (sym e))
starts before after device picked (false, e) = (false, ap (answers_as PlainStarted) (sym e))

pub serves : (before after : PlainBook) (prog : ℕ) (access : Access) (reply : AccessReply) → OrWant before (want_told access) (served before prog access) (after, reply) → Steps before (PlainServe prog access) (Served reply) after
serves before after prog access reply does = (does.0, ap (answers_as PlainServed) (sym does.1))
