use Rattle.std.proofs.Common.{◌+◌, ◌*◌, ◌≤◌, length, ap, ◌∙◌, arith}
use Rattle.map_block.specs.Rows.{rows}
use Rattle.map_block.proofs.RowLemmas.{IsBlock, refilled, within_bytes, rows_written}
use Rattle.bt_mapkind.specs.Atomic.{overwritten}
use Rattle.map_block.proofs.block.Block.write.Goals as goal

pub write_at-requires : goal.write_at-requires
write_at-requires c =
    let b : IsBlock c.self.inside.size c.self.inside.count c.self.inside.bytes.items c.args.self.now = record { view = c.self.view_is; long = c.self.invariant.0 } in
    let h : c.args.index * c.self.inside.size + c.args.offset + length c.args.other.now ≤ length c.self.inside.bytes.items = within_bytes _ _ _ _ _ _ _ b c.requires.there c.requires.within in
    omega (arith, ap length c.deref_mut.ensures.value)

pub overflow_add-index : goal.overflow_add-index
overflow_add-index c = let h = write_at-requires c in omega (arith, h, c.deref_mut.type_inv.0)

pub overflow_mul-index : goal.overflow_mul-index
overflow_mul-index c = let h = write_at-requires c in omega (arith, h, c.deref_mut.type_inv.0)

pub returns : goal.returns
returns c =
    let b : IsBlock c.self.inside.size c.self.inside.count c.self.inside.bytes.items c.args.self.now = record { view = c.self.view_is; long = c.self.invariant.0 } in
    ap (rows c.self.inside.size c.self.inside.count) (refilled c.self.inside.bytes c.write_at.new.bytes (c.write_at.auto.bytes ∙ ap length c.deref_mut.ensures.value) ∙ c.write_at.ensures ∙ ap (λ bytes. overwritten bytes (c.args.index * c.self.inside.size + c.args.offset) c.args.other.now) c.deref_mut.ensures.value)
    ∙ rows_written _ _ _ _ _ _ _ b c.requires.there c.requires.within
