use Rattle.std.proofs.Common.{◌≡◌, ◌∷◌, true, sym, subst, ap, ◌∙◌, rules}
use Rattle.host_state.specs.Hosts.{Table, entries_in}
use Rattle.host_state.specs.declared.entry.MapEntry.{MapEntry}
use Rattle.bt_changes.specs.declared.named.OfName.{OfName}
use Rattle.bt_changes.specs.Named.{of_ids, maps_of_name}
use Rattle.bt_changes.proofs.ShownLemmas.{rows_in, all_shown}
use Rattle.bt_changes.proofs.NamedLemmas.{HasFound, map_more, all_found}
use Rattle.bt_changes.proofs.named.map_of_name.Goals as goal

pub loop-id-preserved-then-has_name : goal.loop-id-preserved-then-has_name
loop-id-preserved-then-has_name g c =
    let boxes = c.args.objects.now.by_id in
    let name = c.args.name.now in
    let all = maps_of_name name (rows_in boxes (entries_in c.args.entries.now).maps) in
    let before : HasFound c.loop-id.found (maps_of_name name (rows_in boxes ((c.in-Some.id.now, c.in-Some.entry.now) ∷ c.next.new.self))) all =
    subst (λ (es : Table MapEntry). HasFound c.loop-id.found (maps_of_name name (rows_in boxes es)) all) c.in-Some.ensures.steps c.loop-id.invariant in
    subst (λ (found : OfName). HasFound found (maps_of_name name (rows_in boxes c.next.new.self)) all) (sym c.with-found.ensures)
    (map_more name boxes c.loop-id.found c.in-Some.id.now c.in-Some.entry.now true c.next.new.self all c.if-has_name.ensures before)

pub returns : goal.returns
returns g c =
    let boxes = c.args.objects.now.by_id in
    let name = c.args.name.now in
    let all = maps_of_name name (rows_in boxes (entries_in c.args.entries.now).maps) in
    all_found c.loop-id.found all (subst (λ (es : Table MapEntry). HasFound c.loop-id.found (maps_of_name name (rows_in boxes es)) all) c.in-None.ensures.steps.0 c.loop-id.invariant)
    ∙ ap (λ rows. of_ids (maps_of_name name rows)) (all_shown boxes (entries_in c.args.entries.now) c.iter-id-items.ensures.ordered)
