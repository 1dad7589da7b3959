-- The steps of a console's frame are accesses of the book, and what they ask on its replies, its maps have.
use Rattle.std.proofs.Common.{◌≡◌, ℕ, Bool, false, List, [], ◌∷◌, ◌++◌, map, Option, Some, None, Result, Ok, Err, refl, sym, ◌∙◌, ap, subst, append_assoc}
use Rattle.bt_mapkind.specs.declared.attr.MapAttr.{MapAttr}
use Rattle.bt_verify.specs.Program.{ProgramView}
use Rattle.program_access.specs.declared.access.Access.{Access}
use Rattle.program_access.specs.declared.reply.AccessReply.{AccessReply}
use Rattle.program_step.specs.Flow.{Flow, Next, Stop}
use Rattle.program_step.specs.declared.machine.Machine.{Machine}
use Rattle.program_step.specs.declared.outcome.Outcome.TheVariants as outcome
use Rattle.bt_interp.specs.Known.{IsHad, TellsOf}
use Rattle.bt_interp.specs.Runs.{State, run_of, left, stopped as stopped_run, advanced_in, advanced, started as started_run, events}
use Rattle.bt_interp.specs.declared.phase.Phase.{Phase}
use Rattle.bt_interp.specs.declared.phase.Phase.TheVariants.{Running, Asked, Finished, Aborted}
use Rattle.bt_interp.proofs.KnownRuns.{asks_what_maps_have}
use Rattle.journal_model.specs.declared.faults.StartFault.{StartFault}
use Rattle.journal_model.specs.declared.limits.Limits.{Limits}
use Rattle.journal_model.specs.Book.{PlainBook}
use Rattle.journal_model.specs.Run.{PlainEvent, PlainAnswer, Record, Start, Serve, Started, Served, Given, event_of, book_after, answers_of}
use Rattle.journal_model.specs.Serve.{started}
use Rattle.journal_model.specs.Well.{Each}
use Rattle.journal_model.proofs.Lists.{Each-map, Each-append, Each-rest}
use Rattle.journal_model.proofs.Running.{book_after-append}
use Rattle.journal_invariant.proofs.Staying.{begins_well}
use Rattle.host_state.specs.declared.change.Change.TheVariants.{Load}
use Rattle.bt_syntax.specs.declared.frame.Frame.{Frame}
use Rattle.bt_console.specs.Frames.{told, stopped, stepped, begun_with}
use Rattle.journal_known_maps.specs.Known.{EventKnows, AnswerKnows, KnowsItsMaps}
use Rattle.journal_known_maps.proofs.Knowing.{knows_its_maps, begins_knowing}
use Rattle.thread_frame_laws.specs.LetIn.{LoadsLetIn}
use Rattle.thread_frame_laws.specs.Stepped.{StepsTo, StepsAskHad}
use Rattle.thread_frame_laws.proofs.Asking.{all_of, each_of, each_back}
use Rattle.thread_frame_laws.proofs.NewHosts.{answers-append, on_the_way}

-- accesses lead from one book to another, and a run from where it stood to another state: on their replies it asks some
-- accesses, and then what it asks from there
record Along (b : PlainBook) (flow : Flow × State) (c : PlainBook) (t : State) : Type 0 where
  accesses : List Given
  replies : List AccessReply
  book : c ≡ book_after b accesses
  answers : answers_of b accesses ≡ map Served replies
  quiet : (maps : ℕ → Option MapAttr) → Each (λ (given : Given). EventKnows maps (event_of given)) accesses
  made : List Access
  asked : (events flow replies).0 ≡ made ++ (events (advanced t) []).0

-- a run that neither asks nor ends stands still
stands : (s u : State) → advanced s ≡ (Next, u) → u ≡ s
stands s u e = by s.phase e
  where
    by_run : (r : Flow × Machine) → stopped_run s r ≡ (Next, u) → u ≡ s
    by_run (Next, m) e = ap (λ (f : Flow × State). f.1) (sym e)
    by_run (Stop o, m) e = absurd (let z : Stop o ≡ Next = ap (λ (f : Flow × State). f.0) e in cc)

    by : (phase : Phase) → advanced_in phase s ≡ (Next, u) → u ≡ s
    by Running e = by_run (run_of s.program.code (left s.machine) s.machine) e
    by (Asked expected) e = by_run (run_of s.program.code (left s.machine) s.machine) e
    by (Finished action) e = absurd (let z : Stop (outcome.Done action) ≡ Next = ap (λ (f : Flow × State). f.0) e in cc)
    by (Aborted reason) e = absurd (let z : Stop (outcome.Abort reason) ≡ Next = ap (λ (f : Flow × State). f.0) e in cc)

one_step : (refused : Bool) (b : PlainBook) (s : State) (c : PlainBook) (t : State) (flow : Flow × State) → advanced s ≡ flow → (stopped refused b flow).2 ≡ None
    → Along (stopped refused b flow).0 (advanced (stopped refused b flow).1) c t → Along b (advanced s) c t
one_step refused b s c t (Stop (outcome.Access access), u) is none rest =
    let reply : AccessReply = (told refused b u.program.id access).1 in
    let more : Along b (Stop (outcome.Access access), u) c t = record {
      accesses = (refused, Serve u.program.id access) ∷ rest.accesses;
      replies = reply ∷ rest.replies;
      book = rest.book;
      answers = ap (λ (answers : List PlainAnswer). Served reply ∷ answers) rest.answers;
      quiet = λ maps. (tt, rest.quiet maps);
      made = access ∷ rest.made;
      asked = ap (λ (accesses : List Access). access ∷ accesses) rest.asked;
    } in
    subst (λ (flow : Flow × State). Along b flow c t) (sym is) more
one_step refused b s c t (Stop (outcome.Done action), u) is none rest = cc
one_step refused b s c t (Stop (outcome.Abort reason), u) is none rest = cc
one_step refused b s c t (Next, u) is none rest = subst (λ (v : State). Along b (advanced v) c t) (stands s u is) rest

all_steps : (wants : List Bool) (b : PlainBook) (s : State) (c : PlainBook) (t : State) → StepsTo wants b s c t → Along b (advanced s) c t
all_steps [] b s c t h = record {
  accesses = [];
  replies = [];
  book = h.0;
  answers = refl;
  quiet = λ maps. tt;
  made = [];
  asked = ap (λ (v : State). (events (advanced v) []).0) (sym h.1);
}
all_steps (refused ∷ wants) b s c t h = one_step refused b s c t (advanced s) refl h.0 (all_steps wants (stepped refused b s).0 (stepped refused b s).1 c t h.1)

-- what was let in on the way is so on a longer one
still_let_in : (b : PlainBook) (events more : List Given) (event : PlainEvent) → LoadsLetIn b events event → LoadsLetIn b (events ++ more) event
still_let_in b events more (Record (Load id code name path) blank) h = record {
  before = h.before;
  after = h.after ++ more;
  way = ap (λ (these : List Given). these ++ more) h.way ∙ append_assoc h.before h.after more;
  bytes = h.bytes;
  verdict = h.verdict;
}
still_let_in b events more (Record _ blank) h = tt
still_let_in b events more _ h = tt

begun_asks : (maps : ℕ → Option MapAttr) (bytes : List ℕ) (picked : Result (Option (ProgramView × ℕ)) StartFault) (s : State) (replies : List AccessReply) → begun_with bytes picked ≡ Ok (Some s) → AnswerKnows maps (Started picked)
    → Each (TellsOf maps) replies → Each (IsHad maps) (events (advanced s) replies).0
begun_asks maps bytes (Ok (Some (program, ifindex))) s replies is knows told =
    let same : started_run program ifindex bytes ≡ s = cc in
    subst (λ (v : State). Each (IsHad maps) (events (advanced v) replies).0) same
    (each_of (IsHad maps) (events (advanced (started_run program ifindex bytes)) replies).0 (asks_what_maps_have maps program ifindex bytes replies knows (all_of (TellsOf maps) replies told)))
begun_asks maps bytes (Ok None) s replies is knows told = cc
begun_asks maps bytes (Err fault) s replies is knows told = cc

pub steps_ask : (devices : List (List ℕ)) (limits : Limits) (b : PlainBook) (script : List Given) (frame : Frame) (s : State) (wants : List Bool) (c : PlainBook) (t : State) → StepsAskHad devices limits b script frame s wants c t
steps_ask devices limits b script frame s wants c t e loads begun steps =
    let at : PlainBook = book_after b script in
    let along : Along at (advanced s) c t = all_steps wants at s c t steps in
    let later : List Given = (false, Start frame.device) ∷ along.accesses in
    let known : KnowsItsMaps b (script ++ later) = knows_its_maps b (script ++ later) (begins_well devices limits b e) in
    let maps : ℕ → Option MapAttr = known.maps in
    let verified : Each (λ (given : Given). EventKnows maps (event_of given)) script =
    Each-map (λ (given : Given). LoadsLetIn b script (event_of given)) (λ (given : Given). EventKnows maps (event_of given)) script
    (λ (given : Given) k. on_the_way b (script ++ later) known (event_of given) (still_let_in b script later (event_of given) k)) loads in
    let all : Each (AnswerKnows maps) (answers_of b (script ++ later)) =
    known.answers (begins_knowing devices limits b maps e) (Each-append (λ (given : Given). EventKnows maps (event_of given)) script later verified (tt, along.quiet maps)) in
    let mine : Each (AnswerKnows maps) (answers_of at later) =
    Each-rest (AnswerKnows maps) (answers_of b script) (answers_of at later) (subst (Each (AnswerKnows maps)) (answers-append b script later) all) in
    let told : Each (TellsOf maps) along.replies = each_back (AnswerKnows maps) Served along.replies (subst (Each (AnswerKnows maps)) along.answers mine.1) in
    let asked : Each (IsHad maps) (along.made ++ (events (advanced t) []).0) = subst (Each (IsHad maps)) along.asked (begun_asks maps frame.bytes (started at frame.device) s along.replies begun mine.0 told) in
    record {
      frame = later;
      book = along.book ∙ sym (book_after-append b script later);
      known = known;
      had = λ access stop is.
          let next : Each (IsHad maps) (events (advanced t) []).0 = Each-rest (IsHad maps) along.made (events (advanced t) []).0 asked in
          (subst (λ (flow : Flow × State). Each (IsHad maps) (events flow []).0) is next).0;
    }
