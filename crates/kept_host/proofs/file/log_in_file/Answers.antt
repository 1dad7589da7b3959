use Rattle.kept_host.proofs.file.log_in_file.Goals as goal

pub returns-in-Ok-told : goal.returns-in-Ok-told
returns-in-Ok-told g c = record { old = c.in-Ok.it; new = record { conn = c.log_kept-told.new.conn }; opened = c.in-Ok.ensures.opened; logs = c.in-Ok-told.ensures }

pub returns-in-Err-told : goal.returns-in-Err-told
returns-in-Err-told g c = record { old = c.in-Ok.it; new = record { conn = c.log_kept-told.new.conn }; opened = c.in-Ok.ensures.opened; logs = c.in-Err-told.ensures }
