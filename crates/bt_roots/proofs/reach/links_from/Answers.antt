use Rattle.std.proofs.Common.{◌≤◌, rules}
use Rattle.bt_roots.proofs.Targets.{start_before_end, between}
use Rattle.bt_roots.proofs.reach.links_from.Goals as goal

pub slice_bounds-result-count : goal.slice_bounds-result-count
slice_bounds-result-count c =
    start_before_end c.args.links.now c.args.from _ _ c.count_below-start.ensures.within c.count_below-start.ensures.split c.count_upto-end.ensures.split

pub slice_bounds-result-start : goal.slice_bounds-result-start
slice_bounds-result-start c =
    let le : c.count_below-start.result ≤ c.count_upto-end.result =
    start_before_end c.args.links.now c.args.from _ _ c.count_below-start.ensures.within c.count_below-start.ensures.split c.count_upto-end.ensures.split in
    let fits = c.count_upto-end.ensures.within in
    search rules

pub returns : goal.returns
returns c =
    between c.args.links.now c.args.from _ _ c.count_below-start.ensures.within c.count_upto-end.ensures.within c.count_below-start.ensures.split c.count_upto-end.ensures.split
