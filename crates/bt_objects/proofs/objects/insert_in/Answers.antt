use Rattle.bt_objects.proofs.BoxLemmas.{seen_boxes-updated}
use Rattle.bt_objects.proofs.objects.insert_in.Goals as goal

pub returns-clause-placed : goal.returns-clause-placed
returns-clause-placed g c = seen_boxes-updated c.args.boxes.now c.insert.new.self c.args.id c.args.placed c.in_ok-insert.ensures.updates
