use Rattle.std.proofs.Common.{refl, sym, ◌∙◌}
use Rattle.bt_nested.proofs.HashLemmas.{set_refused, set_fits, set_done}
use Rattle.map_table.proofs.TableLemmas.{put_fault_of}
use Rattle.bt_nested.proofs.hash_outer.HashOuterKind.set_link.Goals as goal

pub returns-in-Some-clause-step : goal.returns-in-Some-clause-step
returns-in-Some-clause-step c =
    (set_refused c.args.self.now.attr c.args.self.now.table.entries c.args.key.now c.args.id c.args.flag _ c.if-flag-gt2.false (sym c.len.ensures ∙ c.if-len-self.false) (put_fault_of _ _ _ _ _ _ _ c.put_fault.ensures c.args.self.now.held.capacity ∙ c.in-Some.is), refl)

pub exchange-before-requires : goal.exchange-before-requires
exchange-before-requires c = set_fits c.args.self.now.attr c.args.self.now.table.entries c.args.key.now c.args.id c.args.flag (sym c.len.ensures ∙ c.if-len-self.false) (put_fault_of _ _ _ _ _ _ _ c.put_fault.ensures c.args.self.now.held.capacity ∙ c.in_default.is)

pub returns-clause-step : goal.returns-clause-step
returns-clause-step c =
    set_done c.args.self.now.attr c.args.self.now.table.entries _ c.args.key.now c.args.id c.args.flag _ _ c.if-flag-gt2.false (sym c.len.ensures ∙ c.if-len-self.false) (put_fault_of _ _ _ _ _ _ _ c.put_fault.ensures c.args.self.now.held.capacity ∙ c.in_default.is)
    c.exchange-before.ensures.before c.exchange-before.ensures.put c.back_to.ensures
