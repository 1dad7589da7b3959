use Rattle.std.proofs.Common.{refl, ap, sym}
use Rattle.thread_lock.proofs.Ends.{opens}
use Rattle.thread_lock.proofs.Numbers.{only_number}
use Rattle.thread_lock.proofs.Sitting.{seat_of, sits_first}
use Rattle.thread_lock.proofs.turns.Turns.open.Goals as goal

pub new-requires : goal.new-requires
new-requires g c = rw (c.push_reserved.ensures.items, c.reserve.ensures.items, c.new-slots.ensures.items) (opens g.S.Sequential.steps _ _ (sym c.of.ensures) c.requires)

pub returns-in-Ok-clause-seat : goal.returns-in-Ok-clause-seat
returns-in-Ok-clause-seat g c = let new = c.in-Ok.ensures.ok in seat_of _ _ new.2 (sits_first g.S.Sequential.steps _ _ c.in-Ok.place.me new.5 new.4)

pub returns-in-Ok-clause-new : goal.returns-in-Ok-clause-new
returns-in-Ok-clause-new g c = let new = c.in-Ok.ensures.ok in (ap (λ m. m.0.seen) new.4, only_number _ _ (ap (λ m. m.0.numbers) new.4), refl, refl)
