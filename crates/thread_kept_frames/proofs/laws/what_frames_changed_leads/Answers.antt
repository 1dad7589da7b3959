use Rattle.thread_kept_frames.proofs.OfFrames.{served_lead}
use Rattle.thread_kept_frames.proofs.laws.what_frames_changed_leads.Goals as goal

pub returns : goal.returns
returns c = served_lead
