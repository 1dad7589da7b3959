use Rattle.std.proofs.Common.{arith, sym, ◌∙◌}
use Rattle.bt_nested.proofs.HashLemmas.{was_there, found_here, not_found}
use Rattle.bt_nested.proofs.hash_outer.HashOuterKind.lookup.Goals as goal

pub id_of-requires : goal.id_of-requires
id_of-requires c = omega (arith, was_there c.args.self.now.attr c.args.self.now.table c.args.key.now c.in-Some.value.now c.args.self.now.held c.in-Some.ensures.value)

pub returns-in-Some-clause-answer : goal.returns-in-Some-clause-answer
returns-in-Some-clause-answer c = found_here c.args.self.now.attr _ c.args.key.now _ _ (sym c.len.ensures ∙ c.if-len-self.false) c.in-Some.ensures.value c.id_of.ensures

pub returns-in-None-clause-answer : goal.returns-in-None-clause-answer
returns-in-None-clause-answer c = not_found c.args.self.now.attr _ c.args.key.now (sym c.len.ensures ∙ c.if-len-self.false) c.in-None.ensures.value
