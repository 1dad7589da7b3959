use Rattle.std.proofs.Common.{sym, subst}
use Rattle.journal_model.specs.Book.{PlainBook}
use Rattle.thread_lock.specs.Seats.{opening}
use Rattle.bt_desk.specs.Histories.{Runs}
use Rattle.bt_desk.proofs.Runs.{leads_runs}
use Rattle.bt_desk.proofs.desk.Desk.close.Goals as goal

pub returns : goal.returns
returns g c =
    let led = c.close.ensures in
    record {
      history = led.log;
      runs = subst (λ (b : PlainBook). Runs (opening c.args.self.turns) led.log b) (sym c.book.view_is) (leads_runs (opening c.args.self.turns) c.close.result led.log led.leads);
      begins = led.begins;
      same_calls = led.same_calls;
      room = led.room;
    }
