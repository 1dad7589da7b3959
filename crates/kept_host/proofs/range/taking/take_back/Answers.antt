use Rattle.sqlite.specs.Held.{state}
use Rattle.kept_host.proofs.RangeKept.{was_clean, left_opened, on_disk_again}
use Rattle.kept_host.proofs.range.taking.take_back.Goals as goal

pub returns-in-Ok-clause-clean : goal.returns-in-Ok-clause-clean
returns-in-Ok-clause-clean g c = was_clean (state g.D.Store c.args.conn.now) (state g.D.Store c.open_book.new.conn) c.open_book.ensures.crash

pub returns-in-Ok-clause-back : goal.returns-in-Ok-clause-back
returns-in-Ok-clause-back g c clean t b on same = (
  c.in-Ok.ensures.kept clean t b on.keeps,
  on_disk_again (state g.D.Store c.args.conn.now) (state g.D.Store c.open_book.new.conn) c.open_book.ensures.crash c.in-Ok.ensures.same clean t b on,
)

pub returns-in-Ok-clause-left : goal.returns-in-Ok-clause-left
returns-in-Ok-clause-left g c = left_opened (state g.D.Store c.args.conn.now) (state g.D.Store c.open_book.new.conn) c.open_book.ensures.crash

pub returns-in-Err-clause-clean : goal.returns-in-Err-clause-clean
returns-in-Err-clause-clean g c = was_clean (state g.D.Store c.args.conn.now) (state g.D.Store c.open_book.new.conn) c.open_book.ensures.crash

pub returns-in-Err-clause-left : goal.returns-in-Err-clause-left
returns-in-Err-clause-left g c = left_opened (state g.D.Store c.args.conn.now) (state g.D.Store c.open_book.new.conn) c.open_book.ensures.crash

pub returns-in-Ok-clause-rows : goal.returns-in-Ok-clause-rows
returns-in-Ok-clause-rows g c clean t events ledger = c.in-Ok.ensures.same clean t events ledger
