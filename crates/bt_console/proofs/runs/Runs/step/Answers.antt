use Rattle.std.proofs.Common.{subst}
use Rattle.bt_console.specs.Frames.{OpenRuns, RunStepsAt}
use Rattle.bt_console.proofs.Opened.{all_open}
use Rattle.bt_console.proofs.runs.Runs.step.Goals as goal

pub returns : goal.returns
returns g c =
    let refused = c.step_at.ensures.0 in
    let runs : OpenRuns = record { runs = c.self.inside.runs.items; last = c.self.inside.last } in
    let left : OpenRuns = record { runs = c.step_at.new.runs.items; last = c.self.inside.last } in (
      refused,
      subst (λ (it : OpenRuns). RunStepsAt refused c.args.book.now.plain it c.args.place (c.step_at.new.book.plain, left, c.step_at.result)) c.self.view_is
          (all_open refused c.args.book.now.plain runs c.args.place (c.step_at.new.book.plain, c.step_at.new.runs.items, c.step_at.result) c.step_at.ensures.1),
    )
