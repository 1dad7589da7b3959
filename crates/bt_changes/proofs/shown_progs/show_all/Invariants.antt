use Rattle.std.proofs.Common.{◌≡◌, ◌++◌}
use Rattle.std.specs.List.{flat_map}
use Rattle.bt_changes.proofs.ShownLemmas.{prog_rows_at}
use Rattle.bt_changes.proofs.shown_progs.show_all.Given as goal

abbrev pub invariant-loop-id : goal.invariant-loop-id
invariant-loop-id l =
    l.rows.items ++ flat_map (λ e. prog_rows_at e.0 e.1) l.id-iterator
    ≡ flat_map (λ e. prog_rows_at e.0 e.1) l.entries.progs.entries
