use Rattle.std.proofs.Common.{refl}
use Rattle.bt_hash.proofs.StepLemmas.{turned}
use Rattle.bt_hash.proofs.entries.EntriesKindMapKind.turn.Goals as goal

pub returns-in-Key : goal.returns-in-Key
returns-in-Key g c =
    rw c.exchange.ensures.attr (turned c.args.self.now.attr _ _ c.args.back.now c.in-Key.key c.in-Key.value c.take-put.result _ _ c.args.self.now.held.well c.requires c.in-Key.is c.take-put.ensures.value c.exchange.ensures.put c.exchange.ensures.before refl)
