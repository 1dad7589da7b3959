use Rattle.std.proofs.Common.{sym, ◌∙◌}
use Rattle.bt_nested.proofs.HashLemmas.{next_here, next_of_absent}
use Rattle.bt_nested.proofs.hash_outer.HashOuterKind.next.Goals as goal

pub returns-then-holds-clause-answer : goal.returns-then-holds-clause-answer
returns-then-holds-clause-answer c =
    next_here c.args.self.now.attr c.args.self.now.table.entries _ _ _ _ c.in-Some.is (sym c.len.ensures ∙ c.if-len-self.false) (sym c.holds.ensures ∙ c.if-holds.true) c.after.ensures c.of_key.ensures

pub returns-clause-answer : goal.returns-clause-answer
returns-clause-answer c =
    next_of_absent c.args.self.now.attr c.args.self.now.table.entries _ _ _ c.in-Some.is (sym c.len.ensures ∙ c.if-len-self.false) (sym c.holds.ensures ∙ c.if-holds.false) c.key-2.ensures
