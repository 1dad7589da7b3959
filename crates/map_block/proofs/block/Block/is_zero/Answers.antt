use Rattle.map_block.proofs.RowLemmas.{IsBlock, zero_rows}
use Rattle.std.proofs.Common.{rules}
use Rattle.map_block.proofs.block.Block.is_zero.Goals as goal

pub returns-then-not-self : goal.returns-then-not-self
returns-then-not-self c =
    let b : IsBlock c.self.inside.size c.self.inside.count c.self.inside.bytes.items c.args.self.now = record { view = c.self.view_is; long = c.self.invariant.0 } in
    (λ _. zero_rows _ _ _ _ b (c.self.invariant.1 c.if-not-self.true), search rules)
