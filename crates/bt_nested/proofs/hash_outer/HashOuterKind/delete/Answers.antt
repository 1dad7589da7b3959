use Rattle.std.proofs.Common.{sym, ◌∙◌}
use Rattle.bt_nested.proofs.HashLemmas.{delete_refused}
use Rattle.bt_nested.proofs.hash_outer.HashOuterKind.delete.Goals as goal

pub returns-in-None-clause-step : goal.returns-in-None-clause-step
returns-in-None-clause-step c = delete_refused c.args.self.now.attr _ _ c.args.key.now (sym c.len.ensures ∙ c.if-len-self.false) c.in-None.ensures.before c.in-None.ensures.put
