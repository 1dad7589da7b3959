use Rattle.bt_console.proofs.Framed.{frame_goes}
use Rattle.bt_console.proofs.frame.run_frame.Goals as goal

pub returns : goal.returns
returns g c =
    frame_goes c.args.book.now.plain c.start-picked.new.self.plain c.args.frame c.start-picked.result (c.run_picked.new.book.plain, c.run_picked.result) c.start-picked.ensures.plain c.run_picked.ensures
