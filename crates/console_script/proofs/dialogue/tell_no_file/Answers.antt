use Rattle.console_script.proofs.dialogue.tell_no_file.Goals as goal

pub returns-clause-counts : goal.returns-clause-counts
returns-clause-counts g c = rw c.fresh.ensures at c.tell.ensures.counts
