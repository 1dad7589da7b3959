use Rattle.std.proofs.Common.{ap, sym, is_some}
use Rattle.bt_objects.proofs.BoxLemmas.{operated_there, operated_nothing}
use Rattle.bt_objects.proofs.objects.operate_in.Goals as goal

pub returns-in-Some : goal.returns-in-Some
returns-in-Some g c =
    operated_there c.args.boxes.now (c.get_mut.follows.lender c.operate.new.self) c.args.id c.in-Some.placed.now c.operate.new.self c.args.op.now c.operate.result c.in-Some.ensures.value
    ((c.get_mut.follows.holds c.operate.new.self).3 (ap is_some (sym c.in-Some.ensures.value))) c.operate.ensures

pub returns-in-None : goal.returns-in-None
returns-in-None g c = operated_nothing c.args.boxes.now c.get_mut.follows.lender-at-none c.args.id c.args.op.now c.in-None.ensures.value c.get_mut.follows.holds-at-none
