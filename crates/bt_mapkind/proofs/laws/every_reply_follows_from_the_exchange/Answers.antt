use Rattle.bt_mapkind.proofs.Replies.{replies}
use Rattle.bt_mapkind.proofs.laws.every_reply_follows_from_the_exchange.Goals as goal

pub returns : goal.returns
returns c = replies
