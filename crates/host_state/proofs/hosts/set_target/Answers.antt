use Rattle.std.proofs.Common.{sym, subst, ◌∷◌, []}
use Rattle.bt_roots.specs.declared.target.Target.{Target}
use Rattle.host_state.specs.Hosts.{entries_in, RevivesEntries}
use Rattle.host_state.proofs.ReviveLemmas.{map_alone, prog_alone}
use Rattle.host_state.proofs.hosts.set_target.Goals as goal

pub returns-in-Map : goal.returns-in-Map
returns-in-Map c =
    subst (λ (t : Target). RevivesEntries (entries_in c.args.entries.now) (entries_in c.set_live.new.entries) (t ∷ []) c.args.live) (sym c.in-Map.is)
    (map_alone (entries_in c.args.entries.now) (entries_in c.set_live.new.entries) c.in-Map.id c.args.live c.set_live.ensures)

pub returns-in-Prog : goal.returns-in-Prog
returns-in-Prog c =
    subst (λ (t : Target). RevivesEntries (entries_in c.args.entries.now) (entries_in c.set_prog_live.new.entries) (t ∷ []) c.args.live) (sym c.in-Prog.is)
    (prog_alone (entries_in c.args.entries.now) (entries_in c.set_prog_live.new.entries) c.in-Prog.id c.args.live c.set_prog_live.ensures)
