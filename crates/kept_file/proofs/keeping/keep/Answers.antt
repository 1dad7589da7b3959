use Rattle.sqlite.specs.Held.{state}
use Rattle.sqlite.proofs.StateLemmas.{survives_weaker}
use Rattle.kept_file.proofs.KeptLemmas.{then_err, keeps_more, holds_more, commits_as}
use Rattle.kept_file.proofs.keeping.keep.Goals as goal

pub returns-clause-adds : goal.returns-clause-adds
returns-clause-adds g c t b after keeps leads =
    let new = state g.S.Store c.append_all.new.conn in
    commits_as (state g.S.Store c.args.conn.now) new c.append_all.result _ _ _ _ (keeps_more t new b after keeps.events c.args.events.now keeps.leads leads)
    (λ db held. holds_more t db b after keeps.events c.args.events.now keeps.leads leads held) (c.append_all.ensures.adds t keeps.events keeps.ledger)

pub returns-clause-crash : goal.returns-clause-crash
returns-clause-crash g c =
    survives_weaker (state g.S.Store c.args.conn.now) (state g.S.Store c.append_all.new.conn) _ _
    (λ _ db held t b after keeps leads. holds_more t db b after keeps.events c.args.events.now keeps.leads leads (held t keeps.events keeps.ledger)) c.append_all.ensures.crash

pub returns-clause-stays : goal.returns-clause-stays
returns-clause-stays g c clean t b keeps =
    then_err c.append_all.result (λ ledger still. record { events = keeps.events; ledger = ledger still; leads = keeps.leads }) (c.append_all.ensures.kept clean t keeps.events keeps.ledger)

pub returns-clause-times : goal.returns-clause-times
returns-clause-times g c clean t es was = c.append_all.ensures.times clean t es was

pub returns-clause-reason : goal.returns-clause-reason
returns-clause-reason g c clean t es was = c.append_all.ensures.reason clean t es was
