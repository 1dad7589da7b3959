use Rattle.std.proofs.Common.{sym, ap, ◌∙◌, length, ◌≤◌, ◌+◌, ◌*◌, arith}
use Rattle.map_block.specs.Rows.{row_of}
use Rattle.map_block.proofs.RowLemmas.{IsBlock, row_there, row_seen}
use Rattle.map_block.proofs.block.Block.row.Goals as goal

pub row_at-requires : goal.row_at-requires
row_at-requires c =
    let b : IsBlock c.self.inside.size c.self.inside.count c.self.inside.bytes.items c.args.self.now = record { view = c.self.view_is; long = c.self.invariant.0 } in
    let h : c.args.index * c.self.inside.size + c.self.inside.size ≤ length c.self.inside.bytes.items = row_there _ _ _ _ _ b c.requires in
    omega (arith, ap length c.deref.ensures.value)

pub returns : goal.returns
returns c =
    let b : IsBlock c.self.inside.size c.self.inside.count c.self.inside.bytes.items c.args.self.now = record { view = c.self.view_is; long = c.self.invariant.0 } in
    c.row_at.ensures ∙ ap (λ bytes. row_of c.self.inside.size bytes c.args.index) c.deref.ensures.value ∙ sym (row_seen _ _ _ _ _ b c.requires)
