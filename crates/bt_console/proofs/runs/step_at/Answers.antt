use Rattle.std.proofs.Common.{◌∙◌, sym, subst}
use Rattle.bt_console.specs.Frames.{StepsAt}
use Rattle.bt_console.proofs.Opened.{step_on, step_off}
use Rattle.bt_console.proofs.runs.step_at.Goals as goal

pub returns-then-is_some : goal.returns-then-is_some
returns-then-is_some g c = (
  c.step_in-end.ensures.does.0,
  subst (λ items. StepsAt c.step_in-end.ensures.does.0 c.args.book.now.plain c.args.runs.now.items c.args.place (c.step_in-end.new.book.plain, items, c.step_in-end.result)) (sym c.remove.ensures.items)
      (step_off c.step_in-end.ensures.does.0 c.args.book.now.plain c.step_in-end.new.book.plain c.args.runs.now.items c.args.place c.index_mut.result.now c.step_in-end.new.run c.step_in-end.result c.index_mut.ensures.value c.requires c.step_in-end.ensures.does.1 (sym c.is_some.ensures ∙ c.if-is_some.true)),
)

pub returns-else-is_some : goal.returns-else-is_some
returns-else-is_some g c = (
  c.step_in-end.ensures.does.0,
  step_on c.step_in-end.ensures.does.0 c.args.book.now.plain c.step_in-end.new.book.plain c.args.runs.now.items c.args.place c.index_mut.result.now c.step_in-end.new.run c.step_in-end.result c.index_mut.ensures.value c.requires c.step_in-end.ensures.does.1 (sym c.is_some.ensures ∙ c.if-is_some.false),
)
