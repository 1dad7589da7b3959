-- A run goes on call after call, and what it did so far goes before what it does from there.
use Rattle.std.proofs.Common.{◌≡◌, ℕ, ◌+◌, ◌-◌, ◌<◌, Some, None, List, [], ◌∷◌, ◌++◌, refl, sym, ◌∙◌, subst, arith, append_assoc}
use Rattle.std.proofs.lemmas.List.{append-nil}
use Rattle.bt_interp.specs.Runs.{State, advanced, resumed}
use Rattle.journal_model.specs.Book.{PlainBook}
use Rattle.journal_model.specs.Run.{PlainEvent, Serve}
use Rattle.bt_desk.specs.Answer.{Answer}
use Rattle.bt_desk.specs.Answer.TheVariants.{Served}
use Rattle.thread_lock.specs.declared.sequential.Sequential.{Ghosts}
use Rattle.thread_lock.specs.declared.seat.Seat.{Seat}
use Rattle.thread_lock.specs.History.{entry}
use Rattle.thread_lock.specs.Seats.{number, calls_left}
use Rattle.bt_desk.specs.Histories.{Call}
use Rattle.bt_workers.specs.declared.result.FrameEnd.{FrameEnd}
use Rattle.bt_workers.specs.Served.{Gains, Steps, RunsBy}
use Rattle.bt_workers.proofs.Gaining.{gains_none, gains_one, gains_more}

module _ {g : Ghosts PlainBook PlainEvent Answer} where
  -- the calls so far, and what follows from those to come
  abbrev pub Onward : Seat PlainBook PlainEvent Answer g → State → Seat PlainBook PlainEvent Answer g → State → Type 0
  Onward from s seat t =
      (calls : List Call) × Gains from calls seat
      × ((more : List Call) (end : FrameEnd) → RunsBy (calls_left seat) (advanced t) more end → RunsBy (calls_left from) (advanced s) (calls ++ more) end)

  pub onward_first : (seat : Seat PlainBook PlainEvent Answer g) (s : State) → Onward seat s seat s
  onward_first seat s = ([], gains_none seat, λ more end h. h)

  pub onward_more : (from : Seat PlainBook PlainEvent Answer g) (s : State) (seat : Seat PlainBook PlainEvent Answer g) (t : State) (next : Seat PlainBook PlainEvent Answer g) (u : State) → Onward from s seat t → Steps seat t None next u → Onward from s next u
  onward_more from s seat t next u so does =
      let call : Call = entry (number seat) (Serve does.1.program.id does.0) (Served does.2) in
      let left : calls_left next + 1 ≡ calls_left seat = does.4.one_less in
      let goes : (more : List Call) (end : FrameEnd) → RunsBy (calls_left next) (advanced u) more end → RunsBy (calls_left seat) (advanced t) (call ∷ more) end = λ more end h.
      subst (λ flow. RunsBy (calls_left seat) flow (call ∷ more) end) (sym does.3) (
        omega (arith, left),
        refl,
        (
          does.2,
          refl,
          subst (λ n. RunsBy n (advanced (resumed does.1 does.2).1) more end) (let e : calls_left next ≡ calls_left seat - 1 = omega (arith, left) in e)
              (subst (λ v. RunsBy (calls_left next) (advanced v) more end) does.5 h),
        ),
      )
      in (
        so.0 ++ call ∷ [],
        gains_more from so.0 seat (call ∷ []) next so.1 (gains_one seat (Serve does.1.program.id does.0) (Served does.2) next does.4),
        λ more end h. subst (λ calls. RunsBy (calls_left from) (advanced s) calls end) (sym (append_assoc so.0 (call ∷ []) more)) (so.2 (call ∷ more) end (goes more end h)),
      )

  pub onward_last : (from : Seat PlainBook PlainEvent Answer g) (s : State) (seat : Seat PlainBook PlainEvent Answer g) (t : State) (end : FrameEnd) (next : Seat PlainBook PlainEvent Answer g) (u : State) → Onward from s seat t → Steps seat t (Some end) next u
      → (calls : List Call) × Gains from calls next × RunsBy (calls_left from) (advanced s) calls end
  onward_last from s seat t end next u so does = (
    so.0,
    subst (λ it. Gains from so.0 it) (sym does.0) so.1,
    subst (λ calls. RunsBy (calls_left from) (advanced s) calls end) (append-nil so.0) (so.2 [] end does.1),
  )
