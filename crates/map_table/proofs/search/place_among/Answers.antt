use Rattle.std.proofs.Common.{◌+◌, ◌-◌, ◌/◌, ◌<◌, ◌≤◌, [], length, get_or, ap, ◌∙◌, arith}
use Rattle.map_table.proofs.Searched.{between_above, between_below, place_found, compared, length-row_keys}
use Rattle.map_table.proofs.search.place_among.Goals as goal

pub halves-preserved-in-Less : goal.halves-preserved-in-Less
halves-preserved-in-Less c =
    let middle = c.halves.low + (c.halves.high - c.halves.low) / 2 in
    let below : middle < c.halves.high = omega arith in
    let under : middle < length c.args.order.now.rows = omega (arith, length-row_keys c.args.order.now.rows (length c.args.order.now.rows) c.args.keys.now (omega arith)) in
    between_above _ _ _ _ middle c.halves.invariant c.requires.rises below
    (compared c.args.order.now.rows (length c.args.order.now.rows) c.args.keys.now c.args.key.now c.row.result.now middle _ under (omega arith) (c.row.ensures ∙ ap (λ r. get_or c.args.keys.now r []) c.get.ensures) c.in-Less.ensures)

pub returns-in-Equal-clause-found : goal.returns-in-Equal-clause-found
returns-in-Equal-clause-found c =
    let middle = c.halves.low + (c.halves.high - c.halves.low) / 2 in
    let below : middle < c.halves.high = omega arith in
    let under : middle < length c.args.order.now.rows = omega (arith, length-row_keys c.args.order.now.rows (length c.args.order.now.rows) c.args.keys.now (omega arith)) in
    place_found _ _ _ _ middle c.halves.invariant below
    (compared c.args.order.now.rows (length c.args.order.now.rows) c.args.keys.now c.args.key.now c.row.result.now middle _ under (omega arith) (c.row.ensures ∙ ap (λ r. get_or c.args.keys.now r []) c.get.ensures) c.in-Equal.ensures)

pub halves-preserved : goal.halves-preserved
halves-preserved c =
    let middle = c.halves.low + (c.halves.high - c.halves.low) / 2 in
    let below : middle < c.halves.high = omega arith in
    let under : middle < length c.args.order.now.rows = omega (arith, length-row_keys c.args.order.now.rows (length c.args.order.now.rows) c.args.keys.now (omega arith)) in
    let from : c.halves.low ≤ middle = omega arith in
    between_below _ _ _ _ middle c.halves.invariant c.requires.rises from below
    (compared c.args.order.now.rows (length c.args.order.now.rows) c.args.keys.now c.args.key.now c.row.result.now middle _ under (omega arith) (c.row.ensures ∙ ap (λ r. get_or c.args.keys.now r []) c.get.ensures) c.in-Greater.ensures)
