use Rattle.std.proofs.Common.{subst}
use Rattle.std.specs.Prelude.{◌≡◌, None, if◌then◌else◌}
use Rattle.bt_objects.specs.Ids.{is_among}
use Rattle.host_state.specs.Hosts.{found_in}
use Rattle.bt_changes.proofs.world.keep_entries.Goals as goal

pub returns-clause-maps : goal.returns-clause-maps
returns-clause-maps c = λ q. subst (λ ids. found_in c.keep_ids.new.entries.entries q ≡ (if is_among ids q then found_in c.args.entries.now.maps.entries q else None)) c.deref.ensures.value (c.keep_ids.ensures q)

pub returns-clause-progs : goal.returns-clause-progs
returns-clause-progs c = λ q. subst (λ ids. found_in c.keep_ids-2.new.entries.entries q ≡ (if is_among ids q then found_in c.args.entries.now.progs.entries q else None)) c.deref-2.ensures.value (c.keep_ids-2.ensures q)
