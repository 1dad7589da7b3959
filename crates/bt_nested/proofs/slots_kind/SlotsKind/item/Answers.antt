use Rattle.std.proofs.Common.{arith, sym, ap, Ok}
use Rattle.bt_nested.proofs.SlotsLemmas.{item_seen}
use Rattle.bt_nested.proofs.slots_kind.SlotsKind.item.Goals as goal

pub returns : goal.returns
returns c =
    sym (ap Ok (item_seen c.args.self.now.slots c.key_of.result c.args.number c.filled_index.result (omega (arith, c.if-number-filled_len.false, c.filled_len.ensures.count)) c.filled_index.ensures c.key_of.ensures))
