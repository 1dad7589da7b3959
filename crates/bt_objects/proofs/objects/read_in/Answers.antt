use Rattle.bt_objects.proofs.BoxLemmas.{read_there, read_nothing}
use Rattle.bt_objects.proofs.objects.read_in.Goals as goal

pub returns-in-Some-clause-answer : goal.returns-in-Some-clause-answer
returns-in-Some-clause-answer g c = read_there c.args.boxes.now c.args.id c.in-Some.placed.now c.args.query.now c.read.result c.in-Some.ensures.value c.read.ensures.answer

pub returns-in-None-clause-answer : goal.returns-in-None-clause-answer
returns-in-None-clause-answer g c = read_nothing c.args.boxes.now c.args.id c.args.query.now c.in-None.ensures.value
