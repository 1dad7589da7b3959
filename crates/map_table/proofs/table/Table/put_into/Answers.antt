use Rattle.map_table.proofs.KeptLemmas.{no_fault, put_over, kept_over}
use Rattle.map_table.proofs.table.Table.put_into.Goals as goal

pub returns-clause-free : goal.returns-clause-free
returns-clause-free c = no_fault _ _ _ _ _ c.if-flag-eq1.false c.if-not-replace_into.ensures.there

pub returns-clause-put : goal.returns-clause-put
returns-clause-put c = put_over _ _ c.args.key.now c.args.value.now c.if-not-replace_into.ensures.there c.replace_into.ensures.replaced

pub returns-clause-kept : goal.returns-clause-kept
returns-clause-kept c = kept_over _ c.args.key.now _ _ c.if-not-replace_into.ensures.there c.replace_into.ensures.kept
