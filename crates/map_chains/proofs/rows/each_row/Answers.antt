use Rattle.std.proofs.Common.{List, ℕ, sym, ap, ◌∙◌, ◌++◌, ◌∷◌, []}
use Rattle.map_chains.proofs.RangeLemmas.{range_more}
use Rattle.map_chains.proofs.rows.each_row.Goals as goal

pub loop-row-preserved : goal.loop-row-preserved
loop-row-preserved c =
    c.in_ok-push.ensures.items ∙ ap (λ (rows : List ℕ). rows ++ c.loop-row.row ∷ []) c.loop-row.invariant ∙ sym (range_more c.loop-row.row)
