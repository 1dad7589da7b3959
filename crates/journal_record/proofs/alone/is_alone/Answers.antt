use Rattle.std.proofs.Common.{◌&&◌, ◌+◌, drop, sym, ◌∙◌, ap, arith}
use Rattle.journal_record.specs.Alone.{spares}
use Rattle.journal_record.proofs.FoundLemmas.{alone_here}
use Rattle.journal_record.proofs.alone.is_alone.Goals as goal

pub returns-then-is_keyed : goal.returns-then-is_keyed
returns-then-is_keyed c =
    c.spares_from.ensures
    ∙ sym (alone_here c.args.serial c.args.records.now.items c.in-Some.at c.index-one.result.now (omega (arith, c.in-Some.ensures.within, c.args.records.now.ok.0)) c.index-one.ensures c.in-Some.ensures.place
    ∙ ap (λ b. b && spares c.index-one.result.now (drop (c.in-Some.at + 1) c.args.records.now.items)) (sym c.is_keyed.ensures ∙ c.if-is_keyed.true))

pub returns-else-is_keyed : goal.returns-else-is_keyed
returns-else-is_keyed c =
    c.if-is_keyed.false
    ∙ sym (alone_here c.args.serial c.args.records.now.items c.in-Some.at c.index-one.result.now (omega (arith, c.in-Some.ensures.within, c.args.records.now.ok.0)) c.index-one.ensures c.in-Some.ensures.place
    ∙ ap (λ b. b && spares c.index-one.result.now (drop (c.in-Some.at + 1) c.args.records.now.items)) (sym c.is_keyed.ensures ∙ c.if-is_keyed.false))
