use Rattle.thread_kept_frames.proofs.in_file.serve_in_file.Goals as goal

pub returns-in-Ok-served : goal.returns-in-Ok-served
returns-in-Ok-served g c = record {
  all = c.in-Ok.all.items;
  in_file = c.in-Ok.ensures.frames;
  old = c.in-Ok-open_database.it;
  new = record { conn = c.serve_kept-served.new.conn };
  opened = c.in-Ok-open_database.ensures.opened;
  ready = c.in-Ok-open_database.ensures.ready;
  went = c.in-Ok-served.ensures.serves;
  times = (c.milliseconds-time.result, c.milliseconds-time.ensures, c.in-Ok-served.ensures.times);
}

pub returns-in-Err-served : goal.returns-in-Err-served
returns-in-Err-served g c = record {
  all = c.in-Ok.all.items;
  in_file = c.in-Ok.ensures.frames;
  old = c.in-Ok-open_database.it;
  new = record { conn = c.serve_kept-served.new.conn };
  opened = c.in-Ok-open_database.ensures.opened;
  ready = c.in-Ok-open_database.ensures.ready;
  went = c.in-Err-served.ensures.serves;
  times = tt;
}
