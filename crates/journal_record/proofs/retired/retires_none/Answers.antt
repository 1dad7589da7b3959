use Rattle.std.proofs.Common.{◌≡◌, ℕ, ◌<◌, false, not, List, take, length, refl, sym, ◌∙◌, ap, arith}
use Rattle.std.specs.Prelude.{nat_lt}
use Rattle.std.proofs.lemmas.Bool.{eqb-true, le-ltb}
use Rattle.std.specs.List.{list_any}
use Rattle.bt_roots.specs.declared.target.Target.{Target}
use Rattle.journal_record.specs.Retired.{retires_some}
use Rattle.journal_record.proofs.NoneLemmas.{none_next}
use Rattle.journal_record.proofs.retired.retires_none.Goals as goal

pub loop-index-init : goal.loop-index-init
loop-index-init c = record { none = refl }

pub loop-index-preserved : goal.loop-index-preserved
loop-index-preserved c =
    let i : ℕ = c.loop-index.index in
    let within : i < length c.args.records.now.items = omega (arith, c.loop-index-test.true, c.requires, c.args.records.now.ok.0) in
    let none : length c.retired.result.now ≡ 0 = eqb-true (length c.retired.result.now) 0 (sym c.if-not-is_empty.ensures) in
    let apart : retires_some c.index.result.now ≡ false = ap (λ (ts : List Target). nat_lt 0 (length ts)) (sym c.retired.ensures) ∙ le-ltb 0 (length c.retired.result.now) (omega (arith, none)) in
    record { none = none_next retires_some c.args.records.now.items i c.index.result.now within c.index.ensures c.loop-index.invariant.none apart }

pub returns : goal.returns
returns c =
    let all : c.loop-index.index ≡ c.args.count = omega (arith, c.loop-index-test.false, c.loop-index.auto.index-end) in
    ap not (sym c.loop-index.invariant.none) ∙ ap (λ n. not (list_any retires_some (take n c.args.records.now.items))) all
