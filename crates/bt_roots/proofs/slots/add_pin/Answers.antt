use Rattle.std.proofs.Common.{Some}
use Rattle.bt_roots.proofs.SlotLemmas.{pins_put, room_put}
use Rattle.bt_roots.proofs.slots.add_pin.Goals as goal

pub returns-clause-pins : goal.returns-clause-pins
returns-clause-pins c = pins_put c.args.slots.now.entries _ c.args.path (Some c.args.target) c.in_ok-insert.ensures.updates.0

pub returns-clause-room : goal.returns-clause-room
returns-clause-room c = room_put c.args.slots.now.entries _ c.args.path (Some c.args.target) c.in_ok-insert.ensures.updates.0
