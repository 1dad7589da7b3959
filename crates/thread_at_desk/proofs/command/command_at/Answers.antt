use Rattle.std.proofs.Common.{refl, sym, subst}
use Rattle.bt_desk.proofs.Visiting.{if_ok}
use Rattle.bt_syntax.specs.declared.command.Command.{Command}
use Rattle.thread_at_desk.specs.Ran.{CommandAt, RanAt}
use Rattle.thread_at_desk.proofs.Commanded.{of_single}
use Rattle.thread_at_desk.proofs.command.command_at.Goals as goal

pub returns-in-Ok-clause-ran : goal.returns-in-Ok-clause-ran
returns-in-Ok-clause-ran g c =
    if_ok _ _ c.frame_at.result
    (λ answer it. subst (λ (command : Command). CommandAt g.S.Supply.gives g.K.MapKind.seen c.args.desk.now c.args.session.now command answer c.args.session.now c.args.seat.now c.frame_at.new.seat) (sym c.in-Ok.ensures) (it, refl))
    c.frame_at.ensures.ran

pub returns-in-Err-clause-ran : goal.returns-in-Err-clause-ran
returns-in-Err-clause-ran g c =
    if_ok _ _ c.run_at.result
    (λ answer it. of_single g.S.Supply.gives g.K.MapKind.seen c.args.desk.now c.args.session.now c.args.command answer c.run_at.new.session c.args.seat.now c.run_at.new.seat c.in-Err.ensures.1
    (subst (λ (command : Command). RanAt g.S.Supply.gives g.K.MapKind.seen c.args.desk.now c.args.session.now command answer c.run_at.new.session c.args.seat.now c.run_at.new.seat) c.in-Err.ensures.0 it))
    c.run_at.ensures.ran
