use Rattle.std.specs.List.{flat_map}
use Rattle.host_state.specs.Hosts.{entries_in}
use Rattle.host_retirement.specs.Gathered.{links_by_prog}
use Rattle.host_retirement.proofs.GatherLemmas.{one_gathered, progs_gathered}
use Rattle.host_retirement.proofs.retire.prog_links.Goals as goal

pub loop-id-preserved : goal.loop-id-preserved
loop-id-preserved c =
    one_gathered (λ e. links_by_prog e.0 e.1) c.loop-id.id-iterator c.next.new.self (c.in-Some.id.now, c.in-Some.prog.now) c.loop-id.links.items c.add_prog_links.new.links.items
    (flat_map (λ e. links_by_prog e.0 e.1) (entries_in c.args.entries.now).progs) c.loop-id.invariant c.in-Some.ensures.steps c.in_ok-add_prog_links.ensures

pub returns : goal.returns
returns c = progs_gathered (entries_in c.args.entries.now) c.iter-id-items.ensures.ordered c.loop-id.id-iterator c.loop-id.links.items c.in-None.ensures.steps.0 c.loop-id.invariant
