use Rattle.std.proofs.Common.{ap, sym, ◌∙◌, Some}
use Rattle.std.specs.Option.{option_map}
use Rattle.bt_objects.specs.Boxes.{make_of}
use Rattle.bt_objects.proofs.BoxLemmas.{seen_there, nothing_there}
use Rattle.bt_objects.proofs.objects.make_in.Goals as goal

pub returns-in-Some : goal.returns-in-Some
returns-in-Some g c = ap Some c.make.ensures ∙ sym (ap (option_map make_of) (seen_there c.args.boxes.now c.args.id c.in-Some.placed.now c.in-Some.ensures.value))

pub returns-in-None : goal.returns-in-None
returns-in-None g c = sym (ap (option_map make_of) (nothing_there c.args.boxes.now c.args.id c.in-None.ensures.value))
