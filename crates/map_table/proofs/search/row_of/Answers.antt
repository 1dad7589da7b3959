use Rattle.std.proofs.Common.{◌≡◌, ◌≢◌, List, ℕ, Some, [], true, false, get_or, sym, ap, ◌∙◌, below_more, length, arith}
use Rattle.std.specs.List.{slice_get}
use Rattle.std.proofs.lemmas.Bool.Decides.{Decides-eqb}
use Rattle.std.proofs.lemmas.Option.{get_or_from_slice_get}
use Rattle.std.proofs.lemmas.Slice.Eq.{slice_eq-Decides}
use Rattle.map_table.proofs.IndexLemmas.{chain, chain_row, chain_found, chain_ended}
use Rattle.map_table.proofs.search.row_of.Goals as goal

pub returns-in_default : goal.returns-in_default
returns-in_default c =
    chain_ended c.args.order.now.rows (length c.args.order.now.rows) c.args.keys.now c.args.chains.now c.requires.indexed c.args.key.now c.loop-step.step (omega arith) (sym c.in_default.is ∙ c.loop-step.invariant.at) c.loop-step.invariant.passed

pub row-requires : goal.row-requires
row-requires c =
    chain_row c.args.order.now.rows (length c.args.order.now.rows) c.args.keys.now c.args.chains.now c.requires.indexed c.args.key.now c.loop-step.step c.in-Some.row (omega arith) c.requires.rows (sym c.loop-step.invariant.at ∙ c.in-Some.is)

pub returns-then-eq : goal.returns-then-eq
returns-then-eq c =
    chain_found c.args.order.now.rows (length c.args.order.now.rows) c.args.keys.now c.args.chains.now c.requires.indexed c.args.key.now c.loop-step.step c.in-Some.row (omega arith) (sym c.loop-step.invariant.at ∙ c.in-Some.is)
    (sym c.row.ensures ∙ (slice_eq-Decides Decides-eqb c.row.result.now c.args.key.now c.eq.result c.eq.ensures).0 c.if-eq.true)

pub next-link-requires : goal.next-link-requires
next-link-requires c =
    rw c.requires.indexed.rows
    (chain_row c.args.order.now.rows (length c.args.order.now.rows) c.args.keys.now c.args.chains.now c.requires.indexed c.args.key.now c.loop-step.step c.in-Some.row (omega arith) c.requires.rows (sym c.loop-step.invariant.at ∙ c.in-Some.is))

pub loop-step-preserved : goal.loop-step-preserved
loop-step-preserved c =
    let rows : List ℕ = chain c.args.order.now.rows (length c.args.order.now.rows) c.args.keys.now c.args.chains.now c.requires.indexed c.args.key.now in
    let here : slice_get rows c.loop-step.step ≡ Some c.in-Some.row = sym c.loop-step.invariant.at ∙ c.in-Some.is in
    let other : c.row.result.now ≢ c.args.key.now = λ same. let no : true ≡ false = sym ((slice_eq-Decides Decides-eqb c.row.result.now c.args.key.now c.eq.result c.eq.ensures).1 same) ∙ c.if-eq.false in cc no in
    record {
      at = c.next-link.ensures _ c.loop-step.step here;
      passed = below_more (λ i. get_or c.args.keys.now (get_or rows i 0) [] ≢ c.args.key.now) c.loop-step.step c.loop-step.invariant.passed
          (λ same. other (c.row.ensures ∙ ap (λ r. get_or c.args.keys.now r []) (sym (get_or_from_slice_get rows c.loop-step.step c.in-Some.row 0 here)) ∙ same));
    }
