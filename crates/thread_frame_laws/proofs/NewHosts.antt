-- Frames of a desk whose book began as a new one.
use Rattle.std.proofs.Common.{◌≡◌, ℕ, List, [], ◌∷◌, ◌++◌, refl, ap, subst}
use Rattle.host_state.specs.declared.change.Change.TheVariants.{Load}
use Rattle.journal_model.specs.declared.limits.Limits.{Limits}
use Rattle.journal_model.specs.Book.{PlainBook}
use Rattle.journal_model.specs.Run.{PlainEvent, Record, Given, event_of, bookstep, book_after, answers_of}
use Rattle.journal_model.specs.Well.{Each}
use Rattle.journal_model.proofs.Lists.{Each-map, Each-rest}
use Rattle.journal_invariant.proofs.Staying.{begins_well}
use Rattle.journal_known_maps.specs.Known.{BookKnows, EventKnows, AnswerKnows, KnowsItsMaps}
use Rattle.journal_known_maps.proofs.Knowing.{knows_its_maps, begins_knowing}
use Rattle.bt_desk.specs.Histories.{Call}
use Rattle.thread_frame_laws.specs.LetIn.{LoadsLetIn, FramesOfNewHost}
use Rattle.thread_frame_laws.proofs.Asking.{history_asks}
use Rattle.thread_frame_laws.proofs.LettingIn.{let_in}

pub answers-append : (b : PlainBook) (xs ys : List Given) → answers_of b (xs ++ ys) ≡ answers_of b xs ++ answers_of (book_after b xs) ys
answers-append b [] ys = refl
answers-append b (x ∷ xs) ys = ap (λ answers. (bookstep x.0 b x.1).1 ∷ answers) (answers-append (bookstep x.0 b x.1).0 xs ys)

pub on_the_way : (b : PlainBook) (events : List Given) (known : KnowsItsMaps b events) (event : PlainEvent) → LoadsLetIn b events event → EventKnows known.maps event
on_the_way b events known (Record (Load id code name path) blank) h = let_in known.maps (book_after b h.before) h.bytes code (known.attributes h.before h.after h.way) h.verdict
on_the_way b events known (Record _ blank) h = tt
on_the_way b events known _ h = tt

pub frames_of_new_host : (devices : List (List ℕ)) (limits : Limits) (b : PlainBook) (script : List Given) (history : List Call) (left : PlainBook) → FramesOfNewHost devices limits b script history left
frames_of_new_host devices limits b script history left e runs loads =
    let events : List Given = script ++ runs.given in
    let known : KnowsItsMaps b events = knows_its_maps b events (begins_well devices limits b e) in
    let book : BookKnows known.maps b = begins_knowing devices limits b known.maps e in
    let answers : Each (AnswerKnows known.maps) (answers_of b events) =
    known.answers book (Each-map (λ (given : Given). LoadsLetIn b events (event_of given)) (λ (given : Given). EventKnows known.maps (event_of given)) events (λ (given : Given) k. on_the_way b events known (event_of given) k) loads) in
    let parts : Each (AnswerKnows known.maps) (answers_of b script ++ answers_of (book_after b script) runs.given) = subst (Each (AnswerKnows known.maps)) (answers-append b script runs.given) answers in
    record {
      known = known;
      frames = history_asks known.maps (book_after b script) history left runs (Each-rest (AnswerKnows known.maps) (answers_of b script) (answers_of (book_after b script) runs.given) parts);
    }
