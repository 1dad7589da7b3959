use Rattle.std.proofs.Common.{rules}
use Rattle.bt_mapkind.specs.Attributes.{IsGoodFor}
use Rattle.bt_mapkind.specs.declared.attr.MapType.TheVariants.{HashOfMaps}
use Rattle.bt_nested.proofs.HashLemmas.{held_new, new_is_fresh}
use Rattle.bt_nested.proofs.hash_outer.HashOuterKind.new.Goals as goal

pub invariant_of-result : goal.invariant_of-result
invariant_of-result c = record { held = held_new c.args.attr _ (search rules) c.in-Ok.ensures }

pub returns-in-Ok-clause-fresh : goal.returns-in-Ok-clause-fresh
returns-in-Ok-clause-fresh c =
    let good : IsGoodFor HashOfMaps c.args.attr = search rules in
    new_is_fresh c.args.attr _ good.type c.in-Ok.ensures
