use Rattle.std.proofs.Common.{sym, ◌∙◌, ap, drop, ◌-◌, slice_get}
use Rattle.console_operand.specs.Word.{words}
use Rattle.console_hint.proofs.Behind.{first_behind}
use Rattle.console_hint.proofs.word.word_at.Goals as goal

pub returns-in-Some : goal.returns-in-Some
returns-in-Some c =
    ap (λ xs. slice_get xs 0) (sym c.in-Some.ensures.words ∙ c.behind.ensures.words ∙ ap (λ n. drop n (words c.args.line.now)) c.saturating_sub.ensures)
    ∙ sym (first_behind (c.args.number - 1) (words c.args.line.now))

pub returns-in-None : goal.returns-in-None
returns-in-None c =
    ap (λ xs. slice_get xs 0) (sym c.in-None.ensures.words ∙ c.behind.ensures.words ∙ ap (λ n. drop n (words c.args.line.now)) c.saturating_sub.ensures)
    ∙ sym (first_behind (c.args.number - 1) (words c.args.line.now))
