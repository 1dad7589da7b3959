use Rattle.std.proofs.Common.{Some, ap, sym, ◌∙◌}
use Rattle.std.proofs.lemmas.Map.Text.{is_eq-slice_cmp}
use Rattle.bt_mapkind.specs.Exchange.{is_at}
use Rattle.bt_hash.proofs.entries.EntriesKind.is_address.Goals as goal

pub returns-in-Some : goal.returns-in-Some
returns-in-Some g c = c.eq.ensures ∙ sym (is_eq-slice_cmp _ c.args.key.now) ∙ ap (is_at c.args.key.now) (ap Some c.bytes.ensures ∙ c.in-Some.ensures)
