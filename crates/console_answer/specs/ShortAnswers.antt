-- The answer that the parts of a short answer stand for.
use Rattle.console_answer.specs.declared.answer.Answer.{Answer}
use Rattle.console_answer.specs.declared.answer.Answer.TheVariants as answer
use Rattle.console_answer.specs.declared.short_answer.ShortForm.{ShortForm}
use Rattle.console_answer.specs.declared.short_answer.ShortForm.TheVariants as form

abbrev pub answer_of : ShortForm → Answer
answer_of (form.Recorded serial reply) = answer.Changed serial reply
answer_of (form.Ended end) = answer.Ended end
answer_of (form.Refused fault) = answer.Refused fault
