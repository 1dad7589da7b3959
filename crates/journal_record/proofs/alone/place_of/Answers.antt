use Rattle.std.proofs.Common.{◌≡◌, false, refl, sym, ◌∙◌, subst, arith}
use Rattle.std.proofs.lemmas.List.{take_all}
use Rattle.journal_record.specs.Records.{entries}
use Rattle.journal_model.specs.Force.{is_in_force}
use Rattle.journal_record.proofs.FoundLemmas.{place_here, none_yet, never_alone}
use Rattle.journal_record.proofs.alone.place_of.Goals as goal

pub loop-index-init : goal.loop-index-init
loop-index-init c = refl

pub returns-then-serial-clause-place : goal.returns-then-serial-clause-place
returns-then-serial-clause-place c =
    place_here c.args.serial c.args.records.now.items c.loop-index.index c.index.result.now (omega (arith, c.loop-index-test.true, c.len-index-end.ensures, c.args.records.now.ok.0)) c.index.ensures (sym c.serial.ensures ∙ c.if-serial.true) c.loop-index.invariant

pub loop-index-preserved : goal.loop-index-preserved
loop-index-preserved c =
    none_yet c.args.serial c.args.records.now.items c.loop-index.index c.index.result.now (omega (arith, c.loop-index-test.true, c.len-index-end.ensures, c.args.records.now.ok.0)) c.index.ensures (λ same. c.if-serial.false (c.serial.ensures ∙ same)) c.loop-index.invariant

pub returns-clause-within : goal.returns-clause-within
returns-clause-within c =
    subst (λ xs. is_in_force c.args.serial (entries xs) ≡ false) (take_all c.loop-index.index c.args.records.now.items (omega (arith, c.loop-index-test.false, c.len-index-end.ensures, c.args.records.now.ok.0))) c.loop-index.invariant

pub returns-clause-place : goal.returns-clause-place
returns-clause-place c =
    never_alone c.args.serial c.args.records.now.items
    (subst (λ xs. is_in_force c.args.serial (entries xs) ≡ false) (take_all c.loop-index.index c.args.records.now.items (omega (arith, c.loop-index-test.false, c.len-index-end.ensures, c.args.records.now.ok.0))) c.loop-index.invariant)
