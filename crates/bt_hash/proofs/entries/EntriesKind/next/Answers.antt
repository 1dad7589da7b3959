use Rattle.std.proofs.Common.{Some, sym, ap, ◌∙◌}
use Rattle.bt_mapkind.specs.Read.{key_found}
use Rattle.bt_hash.proofs.StepLemmas.{next_at}
use Rattle.bt_hash.proofs.entries.EntriesKind.next.Goals as goal

pub returns-then-holds-clause-answer : goal.returns-then-holds-clause-answer
returns-then-holds-clause-answer g c =
    next_at c.args.self.now.attr c.args.self.now.table.entries c.in-Some.key c.bytes-stored.result.now c.args.key.now _ c.in-Some.is (sym c.len.ensures ∙ c.if-len-self.false)
    (sym c.in-Some-address.ensures ∙ ap Some (sym c.bytes-stored.ensures)) (sym c.holds.ensures ∙ c.if-holds.true) (c.of_key-then-holds.ensures ∙ ap key_found c.after.ensures)
