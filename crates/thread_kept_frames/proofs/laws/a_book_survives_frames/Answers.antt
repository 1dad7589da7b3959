use Rattle.kept_file.proofs.FoundLemmas.{found_again}
use Rattle.thread_kept_frames.specs.Serving.{BeforeOrAfter}
use Rattle.thread_kept_frames.proofs.laws.a_book_survives_frames.Goals as goal

pub returns : goal.returns
returns g c it t all b out_old out_new = found_again g.D.Disk g.E.Disk it t (BeforeOrAfter all b out_old out_new)
