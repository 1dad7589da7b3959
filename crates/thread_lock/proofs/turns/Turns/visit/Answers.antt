use Rattle.std.proofs.Common.{rules, ◌∙◌}
use Rattle.thread_lock.specs.Seats.{opening}
use Rattle.thread_lock.proofs.Sitting.{sits, seat_of}
use Rattle.thread_lock.proofs.Visiting.{sits_visited, visited_by}
use Rattle.thread_lock.proofs.turns.Turns.visit.Goals as goal

pub returns-clause-seat : goal.returns-clause-seat
returns-clause-seat g c =
    seat_of c.args.self.now _ (c.visit_in_turn-told.ensures.table ∙ c.requires.seat.table)
    (sits_visited g.S.Sequential.steps (opening c.args.self.now) _ c.args.seat.now.place.me.0 _ (sits c.args.self.now c.args.seat.now c.requires.seat) c.visit_in_turn-told.ensures.visits)

pub returns-clause-visited : goal.returns-clause-visited
returns-clause-visited g c = visited_by c.args.self.now _ c.args.seat.now _ c.requires.seat c.visit_in_turn-told.ensures.visits (search rules) c.visit_in_turn-told.ensures.place
