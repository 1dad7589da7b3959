use Rattle.bt_hash.proofs.EmptyLemmas.{empty_is_fresh, fresh_is_empty}
use Rattle.bt_hash.proofs.entries.EntriesKindMapKind.is_fresh.Goals as goal

pub returns : goal.returns
returns g c = (
  λ none. empty_is_fresh c.args.self.now.attr _ _ c.args.self.now.held.well.shape c.len.ensures.count none,
  λ is. fresh_is_empty c.args.self.now.attr _ _ c.args.self.now.held.well.shape c.len.ensures.count is,
)
