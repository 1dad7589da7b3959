use Rattle.bt_without.specs.TakesOut.{serial_of}
use Rattle.bt_without.proofs.TakesOutLemmas.{has_outcome}
use Rattle.bt_without.proofs.without.Goals as goal

pub returns-clause-outcome : goal.returns-clause-outcome
returns-clause-outcome g c =
    has_outcome c.args.book.now.plain c.replace_with.new.dest.plain c.args.serial (serial_of c.replace_with.result) c.is_well.ensures c.replace_with.ensures.0.0
