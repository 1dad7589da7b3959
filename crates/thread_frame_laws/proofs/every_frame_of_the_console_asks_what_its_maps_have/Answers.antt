use Rattle.thread_frame_laws.proofs.Stepping.{steps_ask}
use Rattle.thread_frame_laws.proofs.every_frame_of_the_console_asks_what_its_maps_have.Goals as goal

pub returns : goal.returns
returns c = steps_ask
