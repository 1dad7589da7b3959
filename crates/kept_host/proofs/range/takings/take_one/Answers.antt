use Rattle.std.proofs.Common.{[], ◌∷◌, arith, inl, refl, subst, sym}
use Rattle.console_answer.specs.declared.answer.Answer.TheVariants.{TakenOut}
use Rattle.console_text.specs.Text.{text_of}
use Rattle.kept_event.specs.declared.event.KeptEvent.TheVariants as kept
use Rattle.kept_host.specs.Taking.{IsWhy}
use Rattle.kept_host.proofs.TakingSteps.{taken_one, one_leads, why_one, stays_one}
use Rattle.kept_host.proofs.range.takings.take_one.Goals as goal

pub returns-in-Ok-add-clause-taken : goal.returns-in-Ok-add-clause-taken
returns-in-Ok-add-clause-taken g c = (
  text_of (TakenOut c.in-Ok.taken.serial),
  c.in-Ok-add.ensures.text,
  taken_one c.args.serial (omega (arith, c.ranges.serial)) c.args.book.now.plain c.without.new.book.plain c.in-Ok.taken.serial c.in-Ok.ensures.taken.0,
)

pub returns-in-Ok-add-clause-leads : goal.returns-in-Ok-add-clause-leads
returns-in-Ok-add-clause-leads g c = (
  kept.TakenOut c.args.serial c.in-Ok.taken.serial ∷ [],
  c.in-Ok-add.ensures.events,
  one_leads c.args.serial (omega (arith, c.ranges.serial)) c.args.book.now.plain c.without.new.book.plain c.in-Ok.taken.serial c.in-Ok.ensures.taken.0,
)

pub returns-in-Err-clause-refused : goal.returns-in-Err-clause-refused
returns-in-Err-clause-refused g c =
    subst (IsWhy (c.args.serial ∷ []) c.args.book.now.plain) (sym c.of_without.ensures)
    (why_one c.args.serial (omega (arith, c.ranges.serial)) c.args.book.now.plain c.without.new.book.plain c.in-Err.fault c.in-Err.ensures.taken.0)

pub returns-in-Err-clause-same : goal.returns-in-Err-clause-same
returns-in-Err-clause-same g c = λ _. stays_one c.args.serial (omega (arith, c.ranges.serial)) c.args.book.now.plain c.without.new.book.plain c.in-Err.fault c.in-Err.ensures.outcome

pub returns-in-Err-add-clause-refused : goal.returns-in-Err-add-clause-refused
returns-in-Err-add-clause-refused g c = inl refl
