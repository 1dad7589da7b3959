use Rattle.std.proofs.Common.{ap, ◌∙◌}
use Rattle.host_state.specs.Ask.{ask, rows_of}
use Rattle.journal_model.specs.Plain.{now}
use Rattle.bt_journal.specs.Named.{maps_of_name}
use Rattle.console_reference.specs.References.{map_at}
use Rattle.console_reference.proofs.reference.map_of_name.Goals as goal

pub returns : goal.returns
unfolding ask
returns g c =
    let b = c.args.book.now.plain in
    c.map_at.ensures
    ∙ ap (λ id. map_at b id) (c.only.ensures (maps_of_name c.args.name.now (rows_of (now b.line).maps)) (rw c.as_slice.ensures.value at c.map_of_name.ensures))
