use Rattle.std.proofs.Common.{◌<◌, Option, Some, sym, ◌∙◌, ap, arith}
use Rattle.host_state.specs.declared.change.Change.{Change}
use Rattle.journal_record.proofs.SerialLemmas.{none_left, found_here, passed_over}
use Rattle.journal_record.proofs.serials.change_of.Goals as goal

pub returns-then-at-len : goal.returns-then-at-len
returns-then-at-len c = none_left c.args.serial c.args.records.now.items c.count_below-at.result c.count_below-at.ensures.below (omega (arith, c.if-at-len.true, c.len.ensures, c.args.records.now.ok.0))

pub returns-then-serial : goal.returns-then-serial
returns-then-serial c =
    passed_over c.args.serial c.args.records.now.items c.count_below-at.result c.index-record.result.now
    (omega (arith, c.count_below-at.ensures.within, c.if-at-len.false, c.len.ensures, c.args.records.now.ok.0))
    c.index-record.ensures c.requires c.count_below-at.ensures.below c.count_below-at.ensures.others (λ same. c.if-serial.true (c.serial.ensures ∙ same))

pub returns : goal.returns
returns c =
    ap (λ (change : Change). let it : Option Change = Some change in it) c.in_ok-change.ensures
    ∙ found_here c.args.serial c.args.records.now.items c.count_below-at.result c.index-record.result.now
    (omega (arith, c.count_below-at.ensures.within, c.if-at-len.false, c.len.ensures, c.args.records.now.ok.0))
    c.index-record.ensures c.count_below-at.ensures.below (sym c.serial.ensures ∙ c.if-serial.false)
