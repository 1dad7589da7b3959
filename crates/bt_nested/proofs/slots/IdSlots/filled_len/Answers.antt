use Rattle.bt_nested.proofs.FilledLemmas.{length-filled}
use Rattle.bt_nested.proofs.slots.IdSlots.filled_len.Goals as goal

pub returns-clause-within : goal.returns-clause-within
returns-clause-within c = length-filled _
