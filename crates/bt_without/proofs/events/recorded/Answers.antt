use Rattle.bt_without.specs.Events.{blank_with}
use Rattle.bt_without.proofs.EventLemmas.{record_is_step}
use Rattle.bt_without.proofs.events.recorded.Goals as goal

pub returns-clause-stepped : goal.returns-clause-stepped
returns-clause-stepped g c =
    let seen = g.K.MapKind.seen in
    record_is_step seen c.args.book.now.plain c.record.new.self.plain c.args.change c.args.blank c.record.result (blank_with seen c.args.blank c.is_fresh-fresh.result) c.is_fresh-fresh.ensures c.record.ensures.plain
