use Rattle.std.proofs.Common.{ap, sym, ◌∙◌, ◌<◌, ◌^◌, Some, rules}
use Rattle.bt_mapkind.proofs.OfKinds.{some_is}
use Rattle.bt_nested.proofs.IdsLemmas.{id_again}
use Rattle.bt_nested.proofs.hash_outer.bytes_of.Goals as goal

pub returns-in-Some-clause-ids : goal.returns-in-Some-clause-ids
returns-in-Some-clause-ids c =
    let small : c.in-Some.id < 2 ^ 32 = search rules in
    ap Some (id_again _ _ small (some_is _ _ _ _ c.of.ensures c.unwrap.ensures ∙ c.to_le_bytes.ensures)) ∙ sym c.in-Some.is
