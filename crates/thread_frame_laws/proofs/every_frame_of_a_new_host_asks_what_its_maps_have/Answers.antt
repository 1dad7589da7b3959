use Rattle.thread_frame_laws.proofs.NewHosts.{frames_of_new_host}
use Rattle.thread_frame_laws.proofs.every_frame_of_a_new_host_asks_what_its_maps_have.Goals as goal

pub returns : goal.returns
returns c = frames_of_new_host
