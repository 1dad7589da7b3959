use Rattle.thread_frame_laws.proofs.LettingIn.{let_in}
use Rattle.thread_frame_laws.proofs.a_program_that_is_let_in_is_on_the_live_maps.Goals as goal

pub returns : goal.returns
returns c = let_in
