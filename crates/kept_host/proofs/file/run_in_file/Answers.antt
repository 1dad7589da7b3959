use Rattle.kept_host.proofs.file.run_in_file.Goals as goal

pub returns-in-Ok-ran : goal.returns-in-Ok-ran
returns-in-Ok-ran g c = record { old = c.in-Ok.it; new = record { conn = c.run_kept-ran.new.conn }; opened = c.in-Ok.ensures.opened; ready = c.in-Ok.ensures.ready; ran = c.in-Ok-ran.ensures.runs; times = (c.milliseconds-time.result, c.milliseconds-time.ensures, c.in-Ok-ran.ensures.times) }

pub returns-in-Err-ran : goal.returns-in-Err-ran
returns-in-Err-ran g c = record { old = c.in-Ok.it; new = record { conn = c.run_kept-ran.new.conn }; opened = c.in-Ok.ensures.opened; ready = c.in-Ok.ensures.ready; ran = c.in-Err-ran.ensures.runs; times = tt }
