use Rattle.std.proofs.Common.{◌∙◌, ap}
use Rattle.bt_console.specs.Frames.{told}
use Rattle.bt_console.proofs.Framed.{answered}
use Rattle.bt_console.proofs.frame.answer.Goals as goal

pub returns-clause-does : goal.returns-clause-does
returns-clause-does g c =
    let refused = c.serve-reply.ensures.served.0 in
    let b = c.args.book.now.plain in (
      refused,
      answered c.args.run.now c.take-end.new.self c.serve-reply.new.self.plain c.serve-reply.result (told refused b c.args.run.now.program.id c.args.access.now) c.take-end.result
          (c.serve-reply.ensures.served.1 ∙ ap (λ prog. told refused b prog c.args.access.now) c.prog.ensures) c.take-end.ensures,
    )
