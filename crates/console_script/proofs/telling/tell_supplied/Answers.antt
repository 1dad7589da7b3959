use Rattle.console_script.proofs.telling.tell_supplied.Goals as goal

pub returns-clause-tells : goal.returns-clause-tells
returns-clause-tells g c = record { answer = c.run_supplied-answer.result; right = c.run_supplied-answer.ensures; wrote = c.tell_answer.ensures.wrote; tells = c.tell_answer.ensures.told }
