-- A step of a run that does not end it does an instruction more.
use Rattle.std.proofs.Common.{◌≡◌, ℕ, zero, suc, ◌+◌, ◌<◌, ◌≤◌, Option, Some, None, refl, sym, ap, subst, ◌∙◌, arith}
use Rattle.std.specs.Prelude.{Bool, slice_get, IfNone}
use Rattle.bt_insn.specs.declared.insn.Insn.{Insn}
use Rattle.program_access.specs.Access.{expected}
use Rattle.bt_verify.specs.Verified.{Checked}
use Rattle.program_access.specs.declared.access.Access.{Access}
use Rattle.program_access.specs.declared.reply.AccessReply.{AccessReply}
use Rattle.program_access.specs.declared.reply.Expected.{Expected}
use Rattle.bt_verify.specs.declared.slot.Slot.{Slot}
use Rattle.bt_verify.specs.declared.slot.Slot.TheVariants.{First, Second}
use Rattle.program_machine.specs.declared.reason.Reason.{Reason}
use Rattle.program_step.specs.Answers.{replied}
use Rattle.program_step.specs.Flow.{Flow, Next, Stop}
use Rattle.program_step.specs.Meaning.{meaning}
use Rattle.bt_interp.specs.Runs.{State, act, go_on, run_of, code_of, left, stopped, advanced, advanced_in, settled, reply_at, resumed}
use Rattle.program_step.specs.declared.machine.Machine.{Machine}
use Rattle.program_step.specs.declared.outcome.Answered.{Answered}
use Rattle.program_step.specs.declared.outcome.Answered.TheVariants as answers
use Rattle.program_step.specs.declared.outcome.Outcome.{Outcome}
use Rattle.program_step.specs.declared.outcome.Outcome.TheVariants as outcome
use Rattle.bt_interp.specs.declared.phase.Phase.{Phase}
use Rattle.bt_interp.specs.declared.phase.Phase.TheVariants.{Running, Asked, Finished, Aborted}
use Rattle.program_step.proofs.Follows.{Moves, moves_on}
use Rattle.program_step.proofs.Replied.{Replies, replies_on}
use Rattle.journal_model.specs.Book.{PlainBook}
use Rattle.bt_console.specs.Frames.{told, taken, stopped as stopped_at, stepped}
use Rattle.bt_interp.specs.Ends.{end_by}
use Rattle.bt_interp.specs.declared.end.End.{End}

-- ---- to the next access
abbrev IsFirst : Option Slot → Type 0
IsFirst slot = (insn : Insn) × (slot ≡ Some (First insn))

-- at an access no instruction is undone, and an instruction asks
abbrev Reaches : Checked → Machine → Flow × Machine → Type 0
Reaches program m (Next, new) = m.steps ≤ new.steps
Reaches program m (Stop (outcome.Access access), new) = (m.steps ≤ new.steps) × IsFirst (slice_get (code_of program) new.place)
Reaches program m (Stop (outcome.Done action), new) = Unit {0}
Reaches program m (Stop (outcome.Abort reason), new) = Unit {0}

by_move : (program : Checked) (insn : Insn) (m : Machine) (r : Flow × Machine) → Some (First insn) ≡ slice_get (code_of program) m.place → Moves insn m r → Reaches program m r
by_move program insn m (Next, new) at h = let more : new.steps ≡ m.steps + 1 = h.1 in omega (arith, more)
by_move program insn m (Stop (outcome.Access access), new) at h =
    let same : new.steps ≡ m.steps = ap (λ (w : Machine). w.steps) h in
    (omega (arith, same), (insn, ap (λ (w : Machine). slice_get (code_of program) w.place) h ∙ sym at))
by_move program insn m (Stop (outcome.Done action), new) at h = tt
by_move program insn m (Stop (outcome.Abort reason), new) at h = tt

by_act : (program : Checked) (slot : Option Slot) (m : Machine) → slot ≡ slice_get (code_of program) m.place → Reaches program m (act program slot m)
by_act program (Some (First insn)) m at = by_move program insn m (meaning program.maps insn m) at (moves_on program.maps insn m)
by_act program (Some Second) m at = tt
by_act program None m at = tt

goes_further : (program : Checked) (m new : Machine) (r : Flow × Machine) → m.steps ≤ new.steps → Reaches program new r → Reaches program m r
goes_further program m new (Next, end) more h = omega (arith, more, h)
goes_further program m new (Stop (outcome.Access access), end) more h = let rest : new.steps ≤ end.steps = h.0 in (omega (arith, more, rest), h.1)
goes_further program m new (Stop (outcome.Done action), end) more h = tt
goes_further program m new (Stop (outcome.Abort reason), end) more h = tt

reach_on : (program : Checked) (n : ℕ) (m : Machine) (r : Flow × Machine) → Reaches program m r → ((new : Machine) → Reaches program new (run_of program n new)) → Reaches program m (go_on r (run_of program n))
reach_on program n m (Next, new) h rest = goes_further program m new (run_of program n new) h (rest new)
reach_on program n m (Stop outcome, new) h rest = h

run_reaches : (program : Checked) (n : ℕ) (m : Machine) → Reaches program m (run_of program n m)
unfolding run_of
run_reaches program zero m = omega arith
run_reaches program (suc n) m =
    reach_on program n m (act program (slice_get (code_of program) m.place) m) (by_act program (slice_get (code_of program) m.place) m refl) (λ new. run_reaches program n new)

-- the same of a run
abbrev Asks : State → Flow × State → Type 0
Asks s (Next, new) = Unit {0}
Asks s (Stop (outcome.Access access), new) =
    (s.machine.steps ≤ new.machine.steps) × IsFirst (slice_get (code_of new.program.code) new.machine.place) × (new.phase ≡ Asked (expected access))
Asks s (Stop (outcome.Done action), new) = Unit {0}
Asks s (Stop (outcome.Abort reason), new) = Unit {0}

by_stop : (s : State) (r : Flow × Machine) → Reaches s.program.code s.machine r → Asks s (stopped s r)
by_stop s (Next, m) h = tt
by_stop s (Stop (outcome.Access access), m) h = (h.0, h.1, refl)
by_stop s (Stop (outcome.Done action), m) h = tt
by_stop s (Stop (outcome.Abort reason), m) h = tt

by_phase : (phase : Phase) (s : State) → Asks s (advanced_in phase s)
by_phase Running s = by_stop s (run_of s.program.code (left s.machine) s.machine) (run_reaches s.program.code (left s.machine) s.machine)
by_phase (Asked e) s = by_stop s (run_of s.program.code (left s.machine) s.machine) (run_reaches s.program.code (left s.machine) s.machine)
by_phase (Finished action) s = tt
by_phase (Aborted reason) s = tt

-- ---- through the access
abbrev DoesMore : State → Option Reason × State → Type 0
DoesMore s (None, new) = s.machine.steps < new.machine.steps
DoesMore s (Some reason, new) = Unit {0}

by_reply : (s : State) (insn : Insn) (r : Answered × Machine) → Replies insn s.machine r → DoesMore s (settled s r)
by_reply s insn (answers.Next, m) h = let more : m.steps ≡ s.machine.steps + 1 = h.1 in omega (arith, more)
by_reply s insn (answers.Start program, m) h = let more : m.steps ≡ s.machine.steps + 1 = ap (λ (w : Machine). w.steps) h.1 in omega (arith, more)
by_reply s insn (answers.End reason, m) h = tt

asked_more : (s : State) (slot : Option Slot) (phase : Phase) (insn : Insn) (e : Expected) (reply : AccessReply) → slot ≡ Some (First insn) → phase ≡ Asked e → DoesMore s (reply_at s slot phase reply)
asked_more s slot phase insn e reply at asked =
    rw (at, asked) (by_reply s insn (replied insn e s.machine reply) (replies_on insn e s.machine reply))

-- ---- both
-- where a step leads on
abbrev pub MoreIfOn : State → PlainBook × State × Option End → Type 0
MoreIfOn s does = IfNone does.2 (s.machine.steps < does.1.machine.steps)

taken_on : (s asking : State) (b : PlainBook) (r : Option Reason × State) → s.machine.steps ≤ asking.machine.steps → DoesMore asking r → MoreIfOn s (b, r.1, end_by r.1 r.0)
taken_on s asking b (None, new) before more = omega (arith, before, more)
taken_on s asking b (Some reason, new) before more = tt

answered_on : (s asking : State) (access : Access) (does : PlainBook × AccessReply) → Asks s (Stop (outcome.Access access), asking) → MoreIfOn s (taken asking does)
answered_on s asking access does asks =
    taken_on s asking does.0 (resumed asking does.1) asks.0
    (asked_more asking (slice_get (code_of asking.program.code) asking.machine.place) asking.phase asks.1.0 (expected access) does.1 asks.1.1 asks.2)

stopped_on : (refused : Bool) (b : PlainBook) (s : State) (stop : Outcome) (asking : State) → Asks s (Stop stop, asking) → MoreIfOn s (stopped_at refused b (Stop stop, asking))
stopped_on refused b s (outcome.Access access) asking asks = answered_on s asking access (told refused b asking.program.id access) asks
stopped_on refused b s (outcome.Done action) asking asks = tt
stopped_on refused b s (outcome.Abort reason) asking asks = tt

-- a step that does not end the run does an instruction more
pub steps_on : (refused : Bool) (b : PlainBook) (s : State) (stop : Outcome) (asking : State) → (Stop stop, asking) ≡ advanced s → MoreIfOn s (stepped refused b s)
steps_on refused b s stop asking comes =
    subst (λ (at : Flow × State). MoreIfOn s (stopped_at refused b at)) comes
    (stopped_on refused b s stop asking (subst (Asks s) (sym comes) (by_phase s.phase s)))
