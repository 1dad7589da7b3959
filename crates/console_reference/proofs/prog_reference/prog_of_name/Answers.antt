use Rattle.std.proofs.Common.{ℕ, Result, Err, ap, ◌∙◌}
use Rattle.std.specs.Prelude.{if◌then◌else◌}
use Rattle.console_answer.specs.declared.fault.Fault.{Fault}
use Rattle.console_answer.specs.declared.fault.Fault.TheVariants.{NoMemory}
use Rattle.host_state.specs.Ask.{ask, prog_rows}
use Rattle.journal_model.specs.Plain.{now}
use Rattle.bt_journal.specs.Named.{progs_of_name}
use Rattle.console_reference.specs.References.{prog_at}
use Rattle.console_reference.proofs.prog_reference.prog_of_name.Goals as goal

pub returns-clause-found : goal.returns-clause-found
unfolding ask
returns-clause-found g c =
    let b = c.args.book.now.plain in
    let found = c.prog_at.ensures.found in
    (found.0, found.1 ∙ ap (λ (id : Result ℕ Fault). if found.0 then Err NoMemory else prog_at b id) (c.only-found.ensures (progs_of_name c.args.name.now (prog_rows (now b.line).progs)) (rw c.as_slice.ensures.value at c.prog_of_name.ensures)))
