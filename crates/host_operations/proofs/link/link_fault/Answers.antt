use Rattle.std.proofs.Common.{sym, ◌∙◌}
use Rattle.std.specs.FinMap as finite
use Rattle.std.specs.Option.{option_and_then}
use Rattle.host_state.specs.declared.entry.MapEntry.{MapEntry}
use Rattle.host_state.specs.Hosts.{entries_in, entry_at, held}
use Rattle.host_operations.proofs.LinkLemmas.{named_fault_in, fault_told}
use Rattle.host_operations.proofs.link.link_fault.Goals as goal

pub returns : goal.returns
returns g c =
    let boxes = c.args.host.now.objects.by_id in
    let entries = entries_in c.args.host.now.entries in
    c.named_fault.ensures
    ∙ (λ i. named_fault_in boxes entries (c.template_at.ensures i) (c.named_in-named.ensures i))
    ∙ fault_told boxes entries (option_and_then (λ (e : MapEntry). e.template) (held (entry_at entries c.args.map))) (finite.get boxes c.args.map) c.in-Some.make c.args.key.now c.args.id c.args.flag
    (sym c.in-Some.is ∙ c.make_at.ensures) (sym c.in_default-form_fault.is ∙ c.form_fault.ensures)
