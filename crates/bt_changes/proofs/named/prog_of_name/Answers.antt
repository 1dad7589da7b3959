use Rattle.std.proofs.Common.{◌≡◌, ◌∷◌, true, sym, subst, ap, ◌∙◌, rules}
use Rattle.host_state.specs.Hosts.{Table, entries_in}
use Rattle.host_state.specs.State.{HostProg}
use Rattle.bt_changes.specs.declared.named.OfName.{OfName}
use Rattle.bt_changes.specs.Named.{of_ids, progs_of_name}
use Rattle.bt_changes.proofs.ShownLemmas.{prog_rows_in, all_progs_shown}
use Rattle.bt_changes.proofs.NamedLemmas.{HasFound, prog_more, all_found}
use Rattle.bt_changes.proofs.named.prog_of_name.Goals as goal

pub loop-id-preserved-then-prog_has_name : goal.loop-id-preserved-then-prog_has_name
loop-id-preserved-then-prog_has_name c =
    let name = c.args.name.now in
    let all = progs_of_name name (prog_rows_in (entries_in c.args.entries.now).progs) in
    let before : HasFound c.loop-id.found (progs_of_name name (prog_rows_in ((c.in-Some.id.now, c.in-Some.prog.now) ∷ c.next.new.self))) all =
    subst (λ (es : Table HostProg). HasFound c.loop-id.found (progs_of_name name (prog_rows_in es)) all) c.in-Some.ensures.steps c.loop-id.invariant in
    subst (λ (found : OfName). HasFound found (progs_of_name name (prog_rows_in c.next.new.self)) all) (sym c.with-found.ensures)
    (prog_more name c.loop-id.found c.in-Some.id.now c.in-Some.prog.now true c.next.new.self all c.if-prog_has_name.ensures before)

pub returns : goal.returns
returns c =
    let name = c.args.name.now in
    let all = progs_of_name name (prog_rows_in (entries_in c.args.entries.now).progs) in
    all_found c.loop-id.found all (subst (λ (es : Table HostProg). HasFound c.loop-id.found (progs_of_name name (prog_rows_in es)) all) c.in-None.ensures.steps.0 c.loop-id.invariant)
    ∙ ap (λ rows. of_ids (progs_of_name name rows)) (all_progs_shown (entries_in c.args.entries.now) c.iter-id-items.ensures.ordered)
