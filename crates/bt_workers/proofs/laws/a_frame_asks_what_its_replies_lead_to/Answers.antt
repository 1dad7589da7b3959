use Rattle.bt_workers.proofs.Asking.{asks_on_replies}
use Rattle.bt_workers.proofs.laws.a_frame_asks_what_its_replies_lead_to.Goals as goal

pub returns : goal.returns
returns c = asks_on_replies
