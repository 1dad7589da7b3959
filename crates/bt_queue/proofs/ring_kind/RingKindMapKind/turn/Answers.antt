use Rattle.std.proofs.Common.{ap, ◌∙◌, ◌++◌}
use Rattle.std.specs.Option.{option_to_list}
use Rattle.bt_queue.proofs.HeldLemmas.{rear_room, front_room, turned}
use Rattle.bt_queue.proofs.ring_kind.RingKindMapKind.turn.Goals as goal

pub put_rear-requires-clause-room : goal.put_rear-requires-clause-room
put_rear-requires-clause-room c =
    rear_room c.args.self.now.attr c.args.self.now.ring c.take_front-oldest.new.self c.take_rear-newest.new.self c.args.back.now _ _ _ _ _ _ _
    (record { held = c.args.self.now.held; fits = c.requires; is = c.in-Ends.is })
    (record { oldest_is = c.take_front-oldest.ensures.taken; mid_is = c.take_front-oldest.ensures.left; newest_is = c.take_rear-newest.ensures.taken; left_is = c.take_rear-newest.ensures.left })
    c.replace.ensures.value

pub put_front-requires-clause-room : goal.put_front-requires-clause-room
put_front-requires-clause-room c =
    front_room c.args.self.now.attr c.args.self.now.ring c.take_front-oldest.new.self c.take_rear-newest.new.self _ c.args.back.now _ _ _ _ _ _ _ _
    (record { held = c.args.self.now.held; fits = c.requires; is = c.in-Ends.is })
    (record { oldest_is = c.take_front-oldest.ensures.taken; mid_is = c.take_front-oldest.ensures.left; newest_is = c.take_rear-newest.ensures.taken; left_is = c.take_rear-newest.ensures.left })
    c.replace-in-Ends.ensures.value c.replace.ensures.value c.put_rear.ensures

pub invariant_of-self : goal.invariant_of-self
invariant_of-self c =
    record {
      held = (turned c.args.self.now.attr c.args.self.now.ring c.take_front-oldest.new.self c.take_rear-newest.new.self c.put_rear.new.self c.put_front.new.self c.args.back.now _ _ c.is_some.result c.is_some-in-Ends.result _ _ c.take_front-oldest.result c.take_rear-newest.result c.replace-in-Ends.new.dest c.replace.new.dest
          (record { held = c.args.self.now.held; fits = c.requires; is = c.in-Ends.is })
          (record { oldest_is = c.take_front-oldest.ensures.taken; mid_is = c.take_front-oldest.ensures.left; newest_is = c.take_rear-newest.ensures.taken; left_is = c.take_rear-newest.ensures.left })
          (record {
            mid_is = c.put_rear.ensures ∙ ap (λ put. record { items = c.take_rear-newest.new.self.items ++ option_to_list put; capacity = c.take_rear-newest.new.self.capacity; size = c.take_rear-newest.new.self.size }) c.replace.ensures.value;
            new_is = c.put_front.ensures ∙ ap (λ put. record { items = option_to_list put ++ c.put_rear.new.self.items; capacity = c.put_rear.new.self.capacity; size = c.put_rear.new.self.size }) c.replace-in-Ends.ensures.value;
          })
          c.is_some.ensures c.is_some-in-Ends.ensures c.replace-in-Ends.ensures.after c.replace.ensures.after).0;
    }

pub returns-in-Ends : goal.returns-in-Ends
returns-in-Ends c =
    (turned c.args.self.now.attr c.args.self.now.ring c.take_front-oldest.new.self c.take_rear-newest.new.self c.put_rear.new.self c.put_front.new.self c.args.back.now _ _ c.is_some.result c.is_some-in-Ends.result _ _ c.take_front-oldest.result c.take_rear-newest.result c.replace-in-Ends.new.dest c.replace.new.dest
    (record { held = c.args.self.now.held; fits = c.requires; is = c.in-Ends.is })
    (record { oldest_is = c.take_front-oldest.ensures.taken; mid_is = c.take_front-oldest.ensures.left; newest_is = c.take_rear-newest.ensures.taken; left_is = c.take_rear-newest.ensures.left })
    (record {
      mid_is = c.put_rear.ensures ∙ ap (λ put. record { items = c.take_rear-newest.new.self.items ++ option_to_list put; capacity = c.take_rear-newest.new.self.capacity; size = c.take_rear-newest.new.self.size }) c.replace.ensures.value;
      new_is = c.put_front.ensures ∙ ap (λ put. record { items = option_to_list put ++ c.put_rear.new.self.items; capacity = c.put_rear.new.self.capacity; size = c.put_rear.new.self.size }) c.replace-in-Ends.ensures.value;
    })
    c.is_some.ensures c.is_some-in-Ends.ensures c.replace-in-Ends.ensures.after c.replace.ensures.after).1
