use Rattle.std.proofs.Common.{◌∙◌, [], Ok, Result, Option, ℕ, refl, sym, ap, subst}
use Rattle.bt_verify.specs.Program.{ProgramView}
use Rattle.bt_interp.specs.declared.end.End.TheVariants.{NoProgram}
use Rattle.journal_model.specs.declared.faults.StartFault.{StartFault}
use Rattle.thread_lock.specs.Seats.{calls_left}
use Rattle.bt_workers.specs.declared.result.FrameEnd.TheVariants.{Ended, NotStarted}
use Rattle.bt_workers.specs.Served.{GoesOn}
use Rattle.bt_workers.proofs.Gaining.{gains_none}
use Rattle.bt_workers.proofs.serve.go_on.Goals as goal

pub returns-in-Ok-None-clause-goes : goal.returns-in-Ok-None-clause-goes
returns-in-Ok-None-clause-goes g c =
    let Goes : Result (Option (ProgramView × ℕ)) StartFault → Type 0 = λ picked. GoesOn (calls_left c.args.seat.now) c.args.frame.1.items picked [] (Ended NoProgram) in
    ([], gains_none c.args.seat.now, subst Goes (sym (c.in-Ok-None.is ∙ ap Ok c.in-Ok-None.field-0-is)) (refl, refl), refl)

pub returns-in-Err-clause-goes : goal.returns-in-Err-clause-goes
returns-in-Err-clause-goes g c =
    let Goes : Result (Option (ProgramView × ℕ)) StartFault → Type 0 = λ picked. GoesOn (calls_left c.args.seat.now) c.args.frame.1.items picked [] (NotStarted c.in-Err.fault) in
    ([], gains_none c.args.seat.now, subst Goes (sym c.in-Err.is) (refl, refl), refl)
