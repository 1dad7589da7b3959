use Rattle.std.proofs.Common.{sym, ◌∙◌, ap, arith}
use Rattle.std.proofs.lemmas.List.{drop_all}
use Rattle.journal_record.specs.Alone.{spares}
use Rattle.journal_record.proofs.FoundLemmas.{spares_next, spares_no_more}
use Rattle.journal_record.proofs.alone.spares_from.Goals as goal

pub returns-then-not-is_apart_from : goal.returns-then-not-is_apart_from
returns-then-not-is_apart_from c =
    sym (spares_no_more c.args.one.now c.args.records.now.items c.loop-index.index c.index.result.now (omega (arith, c.loop-index-test.true, c.len-index-end.ensures, c.args.records.now.ok.0)) c.index.ensures (sym c.is_apart_from.ensures ∙ c.if-not-is_apart_from.true))
    ∙ c.loop-index.invariant

pub loop-index-preserved : goal.loop-index-preserved
loop-index-preserved c =
    spares_next c.args.one.now c.args.records.now.items c.loop-index.index c.index.result.now (omega (arith, c.loop-index-test.true, c.len-index-end.ensures, c.args.records.now.ok.0)) c.index.ensures (sym c.is_apart_from.ensures ∙ c.if-not-is_apart_from.false)
    ∙ c.loop-index.invariant

pub returns : goal.returns
returns c = sym (ap (spares c.args.one.now) (drop_all c.loop-index.index c.args.records.now.items (omega (arith, c.loop-index-test.false, c.len-index-end.ensures, c.args.records.now.ok.0)))) ∙ c.loop-index.invariant
