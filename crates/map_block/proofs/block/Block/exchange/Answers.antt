use Rattle.std.proofs.Common.{◌+◌, ◌*◌, ◌≤◌, length, ap, ◌∙◌, arith}
use Rattle.map_block.specs.Rows.{rows}
use Rattle.map_block.proofs.RowLemmas.{IsBlock, refilled, row_there, row_long, rows_replaced, row_left}
use Rattle.bt_mapkind.specs.Atomic.{overwritten, part_of}
use Rattle.map_block.proofs.block.Block.exchange.Goals as goal

pub exchange_at-requires : goal.exchange_at-requires
exchange_at-requires c =
    let b : IsBlock c.self.inside.size c.self.inside.count c.self.inside.bytes.items c.args.self.now = record { view = c.self.view_is; long = c.self.invariant.0 } in
    let h : c.args.index * c.self.inside.size + c.self.inside.size ≤ length c.self.inside.bytes.items = row_there _ _ _ _ _ b c.requires.there in
    omega (arith, ap length c.deref_mut.ensures.value, row_long _ _ _ _ _ b c.requires.there, c.requires.same_size)

pub overflow_mul-index : goal.overflow_mul-index
overflow_mul-index c =
    let b : IsBlock c.self.inside.size c.self.inside.count c.self.inside.bytes.items c.args.self.now = record { view = c.self.view_is; long = c.self.invariant.0 } in
    let h : c.args.index * c.self.inside.size + c.self.inside.size ≤ length c.self.inside.bytes.items = row_there _ _ _ _ _ b c.requires.there in
    omega (arith, h, ap length c.deref_mut.ensures.value, c.deref_mut.type_inv.0)

pub returns-clause-here : goal.returns-clause-here
returns-clause-here c =
    let b : IsBlock c.self.inside.size c.self.inside.count c.self.inside.bytes.items c.args.self.now = record { view = c.self.view_is; long = c.self.invariant.0 } in
    ap (rows c.self.inside.size c.self.inside.count) (refilled c.self.inside.bytes c.exchange_at.new.bytes (c.exchange_at.auto.bytes ∙ ap length c.deref_mut.ensures.value) ∙ c.exchange_at.ensures.here ∙ ap (λ bytes. overwritten bytes (c.args.index * c.self.inside.size) c.args.other.now) c.deref_mut.ensures.value)
    ∙ rows_replaced _ _ _ _ _ _ b c.requires.there c.requires.same_size

pub returns-clause-left : goal.returns-clause-left
returns-clause-left c =
    let b : IsBlock c.self.inside.size c.self.inside.count c.self.inside.bytes.items c.args.self.now = record { view = c.self.view_is; long = c.self.invariant.0 } in
    c.exchange_at.ensures.left
    ∙ ap (λ bytes. part_of bytes (c.args.index * c.self.inside.size) (length c.args.other.now)) c.deref_mut.ensures.value
    ∙ row_left _ _ _ _ _ _ b c.requires.there c.requires.same_size
