use Rattle.thread_frame_laws.proofs.Asking.{frames_ask}
use Rattle.thread_frame_laws.proofs.every_frame_asks_what_its_maps_have.Goals as goal

pub returns : goal.returns
returns c = frames_ask
