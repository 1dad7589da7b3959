use Rattle.std.proofs.Common.{None, sym, subst}
use Rattle.bt_console.specs.Commands.{net_done, DoneUnlessRefused}
use Rattle.bt_console.proofs.net.run_net.Goals as goal

pub returns-in-Detach : goal.returns-in-Detach
returns-in-Detach g c =
    let b = c.args.book.now.plain in
    subst (λ command. DoneUnlessRefused b (net_done b command) (c.record_if.new.book.plain, c.record_if.result)) (sym c.in-Detach.is) (c.record_if.ensures None tt)
