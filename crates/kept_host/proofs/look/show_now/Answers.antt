use Rattle.kept_host.proofs.look.show_now.Goals as goal

pub returns-in-Ok-clause-shown : goal.returns-in-Ok-clause-shown
returns-in-Ok-clause-shown g c = record { looked = c.in-Ok.looked; shows = c.in-Ok.ensures.shown; counts = c.counts_of.ensures }
