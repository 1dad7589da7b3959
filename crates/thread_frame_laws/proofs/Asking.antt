-- What a frame asks on the replies of a history, the maps of its books have.
use Rattle.std.proofs.Common.{◌≡◌, ℕ, zero, suc, ◌-◌, List, [], ◌∷◌, map, Contains, Option, Some, None, Result, Ok, Err, refl, sym, ap, subst, arith}
use Rattle.std.specs.Prelude.{All}
use Rattle.std.proofs.lemmas.List.Elements.{All-nil, All-cons, All-head, All-tail}
use Rattle.bt_mapkind.specs.declared.attr.MapAttr.{MapAttr}
use Rattle.bt_verify.specs.Program.{ProgramView}
use Rattle.program_access.specs.declared.reply.AccessReply.{AccessReply}
use Rattle.program_step.specs.Flow.{Flow, Next, Stop}
use Rattle.program_step.specs.declared.outcome.Outcome.TheVariants as outcome
use Rattle.bt_interp.specs.Known.{AreMaps, IsHad, TellsOf}
use Rattle.bt_interp.specs.Runs.{State, started, advanced, resumed, events}
use Rattle.bt_interp.proofs.KnownRuns.{asks_what_maps_have}
use Rattle.journal_model.specs.declared.faults.StartFault.{StartFault}
use Rattle.journal_model.specs.Book.{PlainBook}
use Rattle.journal_model.specs.Run.{PlainAnswer, event_of, answers_of}
use Rattle.journal_model.specs.Well.{Each}
use Rattle.journal_model.proofs.Lists.{Each-map, Each-each}
use Rattle.journal_known_maps.specs.Known.{EventKnows, AnswerKnows, KnowsItsMaps}
use Rattle.journal_known_maps.proofs.Knowing.{knows_its_maps}
use Rattle.bt_without.specs.Events.{answer_of}
use Rattle.bt_without.specs.declared.events.Answer.{Answer}
use Rattle.bt_without.specs.declared.events.Answer.TheVariants.{Started}
use Rattle.bt_desk.specs.Histories.{Call, Runs}
use Rattle.thread_frames.specs.declared.frame.FrameIn.{FrameIn}
use Rattle.bt_workers.specs.declared.result.FrameEnd.{FrameEnd}
use Rattle.bt_workers.specs.Served.{RunsBy, GoesOn, FrameBy}
use Rattle.thread_frame_laws.specs.Asks.{AsksHad, FramesAskHad, FramesAskWhatMapsHave}

-- ---- lists
pub all_of : {X : Type 0} (P : X → Type 0) (xs : List X) → Each P xs → All P xs
all_of P [] h = All-nil P
all_of P (x ∷ xs) h = All-cons P x xs h.0 (all_of P xs h.1)

pub each_of : {X : Type 0} (P : X → Type 0) (xs : List X) → All P xs → Each P xs
each_of P [] h = tt
each_of P (x ∷ xs) h = (All-head P x xs h, each_of P xs (All-tail P x xs h))

in_each : {X : Type 0} (P : X → Type 0) (xs : List X) → Each P xs → (x : X) → Contains xs x → P x
in_each P [] h x (k, lt, is) = absurd (omega (arith, lt))
in_each P (z ∷ xs) h x (zero, lt, is) = subst P is h.0
in_each P (z ∷ xs) h x (suc k, lt, is) = in_each P xs h.1 x (k, omega (arith, lt), is)

-- what holds of each that a function gives
pub each_back : {X Y : Type 0} (P : Y → Type 0) (f : X → Y) (xs : List X) → Each P (map f xs) → Each (λ x. P (f x)) xs
each_back P f [] h = tt
each_back P f (x ∷ xs) h = (h.0, each_back P f xs h.1)

-- ---- a run
module _ (maps : ℕ → Option MapAttr) where
  -- a call was answered on these maps
  abbrev IsTold : Call → Type 0
  IsTold call = AnswerKnows maps (answer_of call.answer)

  abbrev Asks : Call → Type 0
  Asks call = AsksHad maps call.event

  -- replies on these maps, on which it asks what the calls ask
  record Replied (flow : Flow × State) (calls : List Call) : Type 0 where
    replies : List AccessReply
    told : Each (TellsOf maps) replies
    asks : Each (IsHad maps) (events flow replies).0 → Each Asks calls

  nothing_more : (flow : Flow × State) (calls : List Call) → calls ≡ [] → Replied flow calls
  nothing_more flow calls none = record { replies = []; told = tt; asks = λ had. subst (Each Asks) (sym none) tt }

  replied : (left : ℕ) (flow : Flow × State) (calls : List Call) (end : FrameEnd) → RunsBy left flow calls end → Each IsTold calls → Replied flow calls
  replied left (Stop (outcome.Access access), s) [] end h told = nothing_more (Stop (outcome.Access access), s) [] refl
  replied left (Stop (outcome.Access access), s) (call ∷ calls) end h told =
      let reply : AccessReply = h.2.0 in
      let rest : Replied (advanced (resumed s reply).1) calls = replied (left - 1) (advanced (resumed s reply).1) calls end h.2.2 told.1 in
      record {
        replies = reply ∷ rest.replies;
        told = (subst (λ (a : Answer). AnswerKnows maps (answer_of a)) h.2.1 told.0, rest.told);
        asks = λ had. (subst (AsksHad maps) (sym h.1) had.0, rest.asks had.1);
      }
  replied left (Stop (outcome.Done action), s) calls end h told = nothing_more (Stop (outcome.Done action), s) calls h.0
  replied left (Stop (outcome.Abort reason), s) calls end h told = nothing_more (Stop (outcome.Abort reason), s) calls h.0
  replied left (Next, s) calls end h told = absurd h

  -- a program that was verified against these maps
  program_asks : (left : ℕ) (program : ProgramView) (ifindex : ℕ) (bytes : List ℕ) (calls : List Call) (end : FrameEnd) → AreMaps maps program.code.maps → RunsBy left (advanced (started program ifindex bytes)) calls end → Each IsTold calls → Each Asks calls
  program_asks left program ifindex bytes calls end on h told =
      let flow : Flow × State = advanced (started program ifindex bytes) in
      let r : Replied flow calls = replied left flow calls end h told in
      r.asks (each_of (IsHad maps) (events flow r.replies).0 (asks_what_maps_have maps program ifindex bytes r.replies on (all_of (TellsOf maps) r.replies r.told)))

  goes_on : (left : ℕ) (bytes : List ℕ) (picked : Result (Option (ProgramView × ℕ)) StartFault) (answer : Answer) (calls : List Call) (end : FrameEnd) → answer ≡ Started picked → AnswerKnows maps (answer_of answer) → GoesOn left bytes picked calls end
      → Each IsTold calls → Each Asks calls
  goes_on left bytes (Ok (Some (program, ifindex))) answer calls end is knows h told =
      program_asks left program ifindex bytes calls end (subst (λ (a : Answer). AnswerKnows maps (answer_of a)) is knows) h told
  goes_on left bytes (Ok None) answer calls end is knows h told = subst (Each Asks) (sym h.0) tt
  goes_on left bytes (Err fault) answer calls end is knows h told = subst (Each Asks) (sym h.0) tt

  frame_asks : (left : ℕ) (frame : FrameIn) (calls : List Call) (end : FrameEnd) → FrameBy left frame calls end → Each IsTold calls → Each Asks calls
  frame_asks left frame [] end h told = tt
  frame_asks left frame (start ∷ calls) end h told =
      (subst (AsksHad maps) (sym h.1) tt, goes_on (left - 1) frame.bytes.items h.2.0 start.answer calls end h.2.1 told.0 h.2.2 told.1)

  all_ask : (history : List Call) → Each IsTold history → FramesAskHad maps history
  all_ask history told left frame calls end by there = frame_asks left frame calls end by (Each-map (λ (call : Call). Contains history call) IsTold calls (λ (call : Call) has. in_each IsTold history told call has) there)

-- ---- a history
-- whose answers are on these maps
pub history_asks : (maps : ℕ → Option MapAttr) (opened : PlainBook) (history : List Call) (left : PlainBook) (runs : Runs opened history left) → Each (AnswerKnows maps) (answers_of opened runs.given) → FramesAskHad maps history
history_asks maps opened history left runs answers =
    let same : answers_of opened runs.given ≡ map (λ (call : Call). answer_of call.answer) history = ap (λ (made : PlainBook × List PlainAnswer). made.1) runs.run in
    all_ask maps history (each_back (AnswerKnows maps) (λ (call : Call). answer_of call.answer) history (subst (Each (AnswerKnows maps)) same answers))

pub frames_ask : (opened : PlainBook) (history : List Call) (left : PlainBook) → FramesAskWhatMapsHave opened history left
frames_ask opened history left w runs =
    let known : KnowsItsMaps opened runs.given = knows_its_maps opened runs.given w in
    record {
      known = known;
      frames = λ book loads.
          let events : Each (EventKnows known.maps) (map event_of runs.given) = subst (Each (EventKnows known.maps)) (sym runs.events) (Each-each (EventKnows known.maps) (λ (call : Call). call.event) history loads) in
          history_asks known.maps opened history left runs (known.answers book (each_back (EventKnows known.maps) event_of runs.given events));
    }
