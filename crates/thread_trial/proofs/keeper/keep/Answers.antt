use Rattle.thread_trial.specs.Kept.{still}
use Rattle.thread_trial.proofs.keeper.keep.Goals as goal

pub looks-init : goal.looks-init
looks-init g c = (c.requires, still)

pub looks-preserved-in-Some-look : goal.looks-preserved-in-Some-look
looks-preserved-in-Some-look g c = (c.look.ensures.seat, c.look.ensures.kept c.args.seat.now c.looks.invariant.1)

pub looks-preserved : goal.looks-preserved
looks-preserved g c = (c.look.ensures.seat, c.look.ensures.kept c.args.seat.now c.looks.invariant.1)
