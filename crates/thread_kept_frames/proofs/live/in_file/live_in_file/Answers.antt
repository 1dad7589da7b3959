use Rattle.thread_kept_frames.proofs.live.in_file.live_in_file.Goals as goal

pub returns-in-Ok-lived-clause-lives : goal.returns-in-Ok-lived-clause-lives
returns-in-Ok-lived-clause-lives g c = record {
  old = c.in-Ok.it;
  new = record { conn = c.live_kept-lived.new.conn };
  opened = c.in-Ok.ensures.opened;
  ready = c.in-Ok.ensures.ready;
  went = c.in-Ok-lived.ensures.lives;
}

pub returns-in-Err-lived-clause-lives : goal.returns-in-Err-lived-clause-lives
returns-in-Err-lived-clause-lives g c = record {
  old = c.in-Ok.it;
  new = record { conn = c.live_kept-lived.new.conn };
  opened = c.in-Ok.ensures.opened;
  ready = c.in-Ok.ensures.ready;
  went = c.in-Err-lived.ensures.lives;
}

pub returns-in-Err-lived-clause-good : goal.returns-in-Err-lived-clause-good
returns-in-Err-lived-clause-good g c good is = c.in-Err-lived.ensures.good good (cc)
