use Rattle.std.proofs.Common.{ap, sym, is_some, rules}
use Rattle.bt_objects.proofs.BoxLemmas.{turned_there, turned_nothing, fits_there}
use Rattle.bt_objects.proofs.objects.turn_in.Goals as goal

pub turn-requires : goal.turn-requires
turn-requires g c = (search rules, fits_there c.args.boxes.now c.args.id c.in-Some.placed.now c.args.back.now c.in-Some.ensures.value c.requires)

pub returns-in-Some : goal.returns-in-Some
returns-in-Some g c =
    turned_there c.args.boxes.now (c.get_mut.follows.lender c.turn.new.self) c.args.id c.in-Some.placed.now c.turn.new.self c.args.back.now c.turn.new.back c.in-Some.ensures.value
    ((c.get_mut.follows.holds c.turn.new.self).3 (ap is_some (sym c.in-Some.ensures.value))) c.turn.ensures

pub returns-in-None : goal.returns-in-None
returns-in-None g c = turned_nothing c.args.boxes.now c.get_mut.follows.lender-at-none c.args.id c.args.back.now c.in-None.ensures.value c.get_mut.follows.holds-at-none
