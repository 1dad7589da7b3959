use Rattle.std.proofs.Common.{◌-◌, arith}
use Rattle.std.specs.Vec.Iter.{into_iter_items}
use Rattle.kept_book.specs.declared.misfit.Stop.{Stop}
use Rattle.kept_book.proofs.RedoneLemmas.{went_on, stopped}
use Rattle.kept_book.proofs.redoing.redo_events.Goals as goal

pub events-preserved : goal.events-preserved
events-preserved g c = record {
  led = went_on c.args.book.now.plain c.events.book.plain c.redo_event.new.book.plain c.args.events.items (into_iter_items c.events.rest) (into_iter_items c.next.new.self) c.in-Some.event c.redo_event.result c.in-Ok.field-0
      c.events.invariant.led c.in-Some.ensures.cases.0 c.in-Ok.is c.redo_event.ensures;
  count = c.events.invariant.count;
}

pub returns-in-Err : goal.returns-in-Err
returns-in-Err g c =
    let stop : Stop = record { place = c.len-count.result - c.len.result; why = c.in-Err.why } in
    stopped c.args.book.now.plain c.events.book.plain c.redo_event.new.book.plain c.args.events.items (into_iter_items c.events.rest) (into_iter_items c.next.new.self) c.in-Some.event c.redo_event.result stop
    c.events.invariant.led c.in-Some.ensures.cases.0 c.in-Err.is c.redo_event.ensures
    (omega (arith, c.events.invariant.count, c.len.ensures, c.next.new.self.rest.ok.0))
