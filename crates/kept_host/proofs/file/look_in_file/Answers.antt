use Rattle.kept_host.proofs.file.look_in_file.Goals as goal

pub returns-in-Ok-looked : goal.returns-in-Ok-looked
returns-in-Ok-looked g c = record { old = c.in-Ok.it; new = record { conn = c.look_kept-looked.new.conn }; opened = c.in-Ok.ensures.opened; ready = c.in-Ok.ensures.ready; looked = c.in-Ok-looked.ensures }

pub returns-in-Err-looked : goal.returns-in-Err-looked
returns-in-Err-looked g c = record { old = c.in-Ok.it; new = record { conn = c.look_kept-looked.new.conn }; opened = c.in-Ok.ensures.opened; ready = c.in-Ok.ensures.ready; looked = c.in-Err-looked.ensures }
