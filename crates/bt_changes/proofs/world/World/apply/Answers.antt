use Rattle.std.proofs.Common.{◌+◌, sym, subst}
use Rattle.bt_objects.specs.Boxes.{one_more}
use Rattle.host_retirement.specs.Gathered.{calls_in}
use Rattle.host_state.specs.Hosts.{entries_in}
use Rattle.host_state.specs.World.{WorldView}
use Rattle.host_state.specs.Work.{Works, walks, most_calls, after_change}
use Rattle.host_state.specs.declared.change.Change.{Change}
use Rattle.host_state.specs.declared.change.Change.TheVariants.{Operate, Link}
use Rattle.host_operations.proofs.OperationOf.{walks_so, link_walks}
use Rattle.bt_changes.proofs.world.World.apply.Goals as goal

pub returns-in-Operate-clause-work : goal.returns-in-Operate-clause-work
returns-in-Operate-clause-work g c =
    let inside = c.self.inside in
    let done : Change = Operate c.in-Operate.origin c.in-Operate.map c.in-Operate.op in
    let view : WorldView → Change → Type 0 = λ w change. Works (walks w.state change) (most_calls w.state change) c.operate.result w.work (after_change change w.work) c.operate.new.host.objects.work in
    subst (λ change. view c.args.self.now change) (sym c.in-Operate.is)
    (subst (λ w. view w done) c.self.view_is
    (subst (λ b. Works b (calls_in inside.host.objects.by_id (entries_in inside.host.entries) + 2) c.operate.result inside.host.objects.work (one_more inside.host.objects.work) c.operate.new.host.objects.work)
    (sym (walks_so inside.host.objects.by_id (entries_in inside.host.entries) inside.host.roots c.in-Operate.origin c.in-Operate.map c.in-Operate.op)) c.operate.ensures.work))

pub returns-in-Link-clause-work : goal.returns-in-Link-clause-work
returns-in-Link-clause-work g c =
    let inside = c.self.inside in
    let done : Change = Link c.in-Link.map c.in-Link.key c.in-Link.id c.in-Link.flag in
    let view : WorldView → Change → Type 0 = λ w change. Works (walks w.state change) (most_calls w.state change) c.link.result w.work (after_change change w.work) c.link.new.host.objects.work in
    subst (λ change. view c.args.self.now change) (sym c.in-Link.is)
    (subst (λ w. view w done) c.self.view_is
    (subst (λ b. Works b (calls_in inside.host.objects.by_id (entries_in inside.host.entries) + 2) c.link.result inside.host.objects.work (one_more inside.host.objects.work) c.link.new.host.objects.work)
    (sym (link_walks inside.host.objects.by_id (entries_in inside.host.entries) inside.host.roots c.in-Link.map c.in-Link.key c.in-Link.id c.in-Link.flag)) c.link.ensures.work))
