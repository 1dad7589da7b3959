use Rattle.bpfcon.proofs.talk.show_now.Goals as goal

pub returns-in-Ok-clause-shown : goal.returns-in-Ok-clause-shown
returns-in-Ok-clause-shown g c = record { looked = c.in-Ok._looked; shows = c.in-Ok.ensures.shown }
