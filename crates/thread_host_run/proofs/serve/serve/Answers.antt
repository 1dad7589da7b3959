-- Both seats were split off one that had made no call, and were joined before the desk was closed.
use Rattle.std.proofs.Common.{◌∙◌, sym, ap, arith}
use Rattle.thread_lock.specs.History.{has}
use Rattle.thread_lock.specs.Seats.{number}
use Rattle.thread_frames.specs.Takes.{all_of}
use Rattle.thread_host_run.proofs.Serving.{are_served}
use Rattle.thread_host_run.proofs.serve.serve.Goals as goal

pub returns : goal.returns
returns g c =
    let new = c.in-Ok.ensures.new in
    let split = c.split-second.ensures in
    are_served c.in-Ok.opened.0 (all_of c.args.take) c.in_ok-one.ends.items c.close.result.plain c.in_ok-one.one c.in_ok-one.two c.join.new.seat
    c.join.ensures.heard c.join.ensures.numbers c.close.ensures
    c.args.book.plain _ _ c.split-second.new.seat c.split-second.result c.in-Ok.ensures.opening
    (split.seen.0 ∙ new.0) (split.numbers.0 ∙ new.1) (omega (arith, split.half, split.rest, new.2))
    (split.seen.1 ∙ new.0) split.numbers.1 (omega (arith, split.half, new.2))
    (ap (λ ns. has ns (number c.split-second.result)) (sym new.1) ∙ split.new.0) c.join.ensures.left (omega (arith, c.in-Ok.ensures.calls, new.2, split.rest))
    c.in_ok-one.ensures.works c.in_ok-one.ensures.each
