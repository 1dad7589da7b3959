-- No call of a frame is a move of the journal: so what is noted after all of them leads.
use Rattle.std.proofs.Common.{◌≡◌, ◌==◌, ◌||◌, ℕ, ◌-◌, ◌+◌, Bool, true, false, cond, List, [], ◌∷◌, length, map as each, Result, Ok, Err, Option, Some, None, sym, ap, subst}
use Rattle.bt_verify.specs.Program.{ProgramView}
use Rattle.program_step.specs.Flow.{Flow, Next, Stop}
use Rattle.program_step.specs.declared.outcome.Outcome.TheVariants as outcome
use Rattle.bt_interp.specs.Runs.{State, started, advanced, resumed}
use Rattle.journal_model.specs.declared.faults.StartFault.{StartFault}
use Rattle.journal_model.specs.Book.{PlainBook}
use Rattle.journal_model.specs.Run.{PlainAnswer, book_after}
use Rattle.journal_model.specs.Well.{Each}
use Rattle.journal_model.proofs.Lists.{Each-append}
use Rattle.bt_without.specs.declared.events.Answer.{Answer}
use Rattle.bt_without.specs.Events.{answer_of}
use Rattle.thread_lock.specs.History.{own}
use Rattle.bt_desk.specs.Histories.{Call}
use Rattle.thread_frames.specs.declared.frame.FrameIn.{FrameIn}
use Rattle.bt_workers.specs.declared.result.FrameEnd.{FrameEnd}
use Rattle.bt_workers.specs.declared.result.FrameResult.{FrameResult}
use Rattle.bt_workers.specs.Served.{RunsBy, GoesOn, FrameBy}
use Rattle.bt_workers.specs.Worked.{EndBy}
use Rattle.thread_host_run.specs.HostRuns.{AreServed, half}
use Rattle.kept_book.specs.Leading.{LeadTo}
use Rattle.kept_book.specs.Noted.{accepts_move, changes_since}
use Rattle.kept_book.specs.Laws.{NoneMoves}
use Rattle.kept_book.proofs.GrownLemmas.{changes_lead}
use Rattle.thread_kept_frames.specs.Serving.{ServedLead}

abbrev IsNoMove : Call → Type 0
IsNoMove call = accepts_move (answer_of call.answer) ≡ false

no_calls : (calls : List Call) → calls ≡ [] → Each IsNoMove calls
no_calls calls none = subst (Each IsNoMove) (sym none) tt

-- ---- the calls of a frame
of_run : (left : ℕ) (at : Flow × State) (calls : List Call) (end : FrameEnd) → RunsBy left at calls end → Each IsNoMove calls
of_run left (Stop (outcome.Access access), s) [] end h = tt
of_run left (Stop (outcome.Access access), s) (call ∷ calls) end h =
    let more = h.2 in
    (ap (λ (a : Answer). accepts_move (answer_of a)) more.1, of_run (left - 1) (advanced (resumed s more.0).1) calls end more.2)
of_run left (Stop (outcome.Done action), s) calls end h = no_calls calls h.0
of_run left (Stop (outcome.Abort reason), s) calls end h = no_calls calls h.0
of_run left (Next, s) calls end h = absurd h

of_start : (left : ℕ) (bytes : List ℕ) (picked : Result (Option (ProgramView × ℕ)) StartFault) (calls : List Call) (end : FrameEnd) → GoesOn left bytes picked calls end → Each IsNoMove calls
of_start left bytes (Ok (Some (program, ifindex))) calls end h = of_run left (advanced (started program ifindex bytes)) calls end h
of_start left bytes (Ok None) calls end h = no_calls calls h.0
of_start left bytes (Err fault) calls end h = no_calls calls h.0

of_frame : (left : ℕ) (frame : FrameIn) (calls : List Call) (end : FrameEnd) → FrameBy left frame calls end → Each IsNoMove calls
of_frame left frame [] end h = tt
of_frame left frame (call ∷ calls) end h =
    let more = h.2 in
    (ap (λ (a : Answer). accepts_move (answer_of a)) more.1, of_start (left - 1) frame.bytes.items more.0 calls end more.2)

of_frames : (all : List FrameIn) (left : ℕ) (ends : List FrameResult) (calls : List Call) → EndBy all left ends calls → Each IsNoMove calls
of_frames all left [] calls h = no_calls calls h
of_frames all left (ended ∷ more) calls h =
    subst (Each IsNoMove) (sym h.2) (Each-append IsNoMove h.0 h.1 (of_frame left h.3.frame h.0 ended.end h.3.by) (of_frames all (left - length h.0) more h.1 h.4))

-- ---- the calls of two seats
module _ (P : Call → Type 0) (call : Call) (ours mine theirs : List Call) where
  with_call : (s t : Bool) → (Each P mine → Each P theirs → Each P ours) → Each P (cond (s || false) (call ∷ mine) mine) → Each P (cond (t || false) (call ∷ theirs) theirs) → Each P (cond (s || (t || false)) (call ∷ ours) ours)
  with_call true true both h k = (h.0, both h.1 k.1)
  with_call true false both h k = (h.0, both h.1 k)
  with_call false true both h k = (k.0, both h k.1)
  with_call false false both h k = both h k

of_both : (P : Call → Type 0) (m n : ℕ) (history : List Call) → Each P (own (m ∷ []) history) → Each P (own (n ∷ []) history) → Each P (own (m ∷ n ∷ []) history)
of_both P m n [] h k = tt
of_both P m n (call ∷ more) h k = with_call P call (own (m ∷ n ∷ []) more) (own (m ∷ []) more) (own (n ∷ []) more) (m == call.by) (n == call.by) (of_both P m n more) h k

-- ---- a history
no_moves : (history : List Call) → Each IsNoMove history → Each (λ (answer : PlainAnswer). accepts_move answer ≡ false) (each (λ (call : Call). answer_of call.answer) history)
no_moves [] h = tt
no_moves (call ∷ more) h = (h.0, no_moves more h.1)

module _ (b : PlainBook) (all : List FrameIn) (ends : List FrameResult) (c : PlainBook) (served : AreServed b all ends c) where
  none_moves : NoneMoves b served.runs.given
  none_moves =
      let every : Each IsNoMove served.history =
      subst (Each IsNoMove) served.by_both
      (of_both IsNoMove served.first served.second served.history (of_frames all half served.ones (own (served.first ∷ []) served.history) served.by_first) (of_frames all half served.twos (own (served.second ∷ []) served.history) served.by_second)) in
      subst (Each (λ (answer : PlainAnswer). accepts_move answer ≡ false)) (sym (ap (λ (made : PlainBook × List PlainAnswer). made.1) served.runs.run)) (no_moves served.history every)

pub served_lead : (b : PlainBook) (all : List FrameIn) (ends : List FrameResult) (c : PlainBook) → ServedLead b all ends c
served_lead b all ends c well served count =
    let given = served.runs.given in
    let after : book_after b given ≡ c = ap (λ (made : PlainBook × List PlainAnswer). made.0) served.runs.run in
    subst (λ (x : PlainBook). LeadTo b (changes_since b.last_serial x) x) after
    (changes_lead b given well (none_moves b all ends c served) (subst (λ (x : PlainBook). b.last_serial + length (changes_since b.last_serial x) ≡ x.last_serial) (sym after) count))
