use Rattle.sqlite.specs.Held.{state}
use Rattle.kept_file.proofs.KeptLemmas.{commits_as}
use Rattle.kept_file.proofs.keeping.keep_first.Goals as goal

pub returns-clause-makes : goal.returns-clause-makes
returns-clause-makes g c b leads =
    commits_as (state g.S.Store c.args.conn.now) (state g.S.Store c.create.new.conn) c.create.result _ _ _ _ (λ ledger. record { events = c.args.events.now; ledger = ledger; leads = leads })
    (λ db held. record { events = c.args.events.now; holds = held; leads = leads }) c.create.ensures.makes

pub returns-clause-times : goal.returns-clause-times
returns-clause-times g c clean = c.create.ensures.times clean

pub returns-clause-reason : goal.returns-clause-reason
returns-clause-reason g c clean = c.create.ensures.reason clean
