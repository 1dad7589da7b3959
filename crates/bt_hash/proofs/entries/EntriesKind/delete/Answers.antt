use Rattle.std.proofs.Common.{Some, sym, ap, ◌∙◌}
use Rattle.bt_hash.proofs.StepLemmas.{key_fits_at, delete_refused}
use Rattle.bt_hash.proofs.entries.EntriesKind.delete.Goals as goal

pub take-requires : goal.take-requires
take-requires g c = key_fits_at c.args.self.now.attr c.args.key.now _ (sym c.len.ensures ∙ c.if-len-self.false) (sym c.in-Some.ensures ∙ ap Some (sym c.bytes-stored.ensures))

pub returns-in-None-clause-step : goal.returns-in-None-clause-step
returns-in-None-clause-step g c = delete_refused c.args.self.now.attr c.args.self.now.table.entries _ c.args.key.now _ (sym c.len.ensures ∙ c.if-len-self.false) (sym c.in-Some.ensures ∙ ap Some (sym c.bytes-stored.ensures)) c.in-None.ensures.before c.in-None.ensures.put
