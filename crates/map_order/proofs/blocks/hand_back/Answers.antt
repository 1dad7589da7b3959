use Rattle.std.proofs.Common.{◌≡◌, ◌+◌, ◌*◌, ◌-◌, ◌≤◌, ◌<◌, ℕ, ap, subst, arith}
use Rattle.map_order.specs.Blocks.{row_at}
use Rattle.map_order.proofs.BlockLemmas.{Returns, returns_more, returns_all}
use Rattle.map_order.proofs.blocks.hand_back.Goals as goal

pub behind-preserved : goal.behind-preserved
behind-preserved c =
    let place : ℕ = c.behind.next - 1 in
    let before : c.behind.next * 512 ≡ place * 512 + 512 = omega arith in
    let within : place * 512 + 512 ≤ c.args.last * 512 + 512 = omega (arith, c.behind.invariant.within) in
    record {
      order = omega arith;
      within = omega (arith, c.behind.invariant.within);
      rows = returns_more _ _ _ (place * 512) _ _ _
          (subst (λ from. Returns (row_at c.args.starts.now c.args.rows.now) (row_at c.behind.starts c.behind.rows) from (c.args.last * 512 + 512) c.behind.carried) before c.behind.invariant.rows)
          within c.push_back-carried.ensures;
    }

pub returns : goal.returns
returns c =
    let same : c.behind.next * 512 ≡ c.args.block * 512 = omega (arith, c.behind.invariant.order) in
    let some : c.args.block * 512 < c.args.last * 512 + 512 = omega arith in
    returns_all _ _ _ _ _
    (subst (λ from. Returns (row_at c.args.starts.now c.args.rows.now) (row_at c.behind.starts c.behind.rows) from (c.args.last * 512 + 512) c.behind.carried) same c.behind.invariant.rows)
    some _ (λ i e. let last : i ≡ c.args.last * 512 + 511 = omega arith in ap (row_at c.behind.starts c.behind.rows) last)
