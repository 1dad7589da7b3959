use Rattle.std.proofs.Common.{rules, ap, ◌∙◌}
use Rattle.thread_lock.proofs.Steady.{settles}
use Rattle.thread_lock.proofs.Splitting.{notes}
use Rattle.thread_lock.proofs.Joining.{hears}
use Rattle.thread_lock.proofs.turns.Turns.tell.Goals as goal

pub split_seat-note-requires : goal.split_seat-note-requires
split_seat-note-requires g c = (search rules, search rules, notes g.S.Sequential.steps _ _ _)

pub join_seat-requires : goal.join_seat-requires
join_seat-requires g c =
    let is = c.split_seat-note.ensures.4 in
    (search rules, search rules, search rules, search rules, hears g.S.Sequential.steps _ _ _ _ _ (ap (λ m. m.0.stage) is) (ap (λ m. m.0.left) is))

pub load-requires : goal.load-requires
load-requires g c = (search rules, search rules, settles g.S.Sequential.steps _ _ _ _ _ (ap (λ m. m.0.stage) c.join_seat.ensures.2 ∙ c.requires.idle))
