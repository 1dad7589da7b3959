use Rattle.std.proofs.Common.{◌+◌, ◌*◌, ◌≤◌, length, ap, ◌∙◌, arith}
use Rattle.map_block.specs.Rows.{rows}
use Rattle.map_block.proofs.RowLemmas.{IsBlock, refilled, within_bytes, rows_combined}
use Rattle.bt_mapkind.specs.Atomic.{overwritten, part_of, size_in_bytes, bytes_after}
use Rattle.map_block.proofs.block.Block.combine.Goals as goal

pub combine_at-requires : goal.combine_at-requires
combine_at-requires c =
    let b : IsBlock c.self.inside.size c.self.inside.count c.self.inside.bytes.items c.args.self.now = record { view = c.self.view_is; long = c.self.invariant.0 } in
    let h : c.args.index * c.self.inside.size + c.args.offset + size_in_bytes c.args.size ≤ length c.self.inside.bytes.items = within_bytes _ _ _ _ _ _ _ b c.requires.there c.requires.within in
    omega (arith, ap length c.deref_mut.ensures.value)

pub overflow_add-index : goal.overflow_add-index
overflow_add-index c = let h = combine_at-requires c in omega (arith, h, c.deref_mut.type_inv.0)

pub overflow_mul-index : goal.overflow_mul-index
overflow_mul-index c = let h = combine_at-requires c in omega (arith, h, c.deref_mut.type_inv.0)

pub returns : goal.returns
returns c =
    let b : IsBlock c.self.inside.size c.self.inside.count c.self.inside.bytes.items c.args.self.now = record { view = c.self.view_is; long = c.self.invariant.0 } in
    ap (rows c.self.inside.size c.self.inside.count) (refilled c.self.inside.bytes c.combine_at.new.bytes (c.combine_at.auto.bytes ∙ ap length c.deref_mut.ensures.value) ∙ c.combine_at.ensures ∙ ap (λ bytes. overwritten bytes (c.args.index * c.self.inside.size + c.args.offset) (bytes_after c.args.op c.args.size c.args.operand (part_of bytes (c.args.index * c.self.inside.size + c.args.offset) (size_in_bytes c.args.size)))) c.deref_mut.ensures.value)
    ∙ rows_combined _ _ _ _ _ _ _ _ _ b c.requires.there c.requires.within
