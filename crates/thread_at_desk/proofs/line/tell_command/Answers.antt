use Rattle.thread_at_desk.proofs.line.tell_command.Goals as goal

pub returns-in-Ok-clause-tells : goal.returns-in-Ok-clause-tells
returns-in-Ok-clause-tells g c = record { answer = c.in-Ok.answer; right = c.in-Ok.ensures.ran; wrote = c.tell_answer.ensures.wrote; tells = c.tell_answer.ensures.told }
