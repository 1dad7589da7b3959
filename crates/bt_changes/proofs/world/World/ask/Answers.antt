use Rattle.host_state.specs.Hosts.{entries_in}
use Rattle.std.proofs.Common.{◌≡◌, ap, sym, subst, ◌∙◌, IfOk}
use Rattle.host_state.specs.declared.ask.Ask.TheVariants.{Map, Start}
use Rattle.host_state.specs.Ask.{ask, IsLookUp}
use Rattle.host_state.specs.Work.{CallsAtMost, calls_of}
use Rattle.host_state.specs.World.{WorldView}
use Rattle.bt_changes.proofs.AskLemmas.{asked, asked_start}
use Rattle.host_state.proofs.CallLemmas.{within_call}
use Rattle.bt_changes.proofs.world.World.ask.Goals as goal

pub returns-in-Map-clause-answer : goal.returns-in-Map-clause-answer
returns-in-Map-clause-answer g c =
    subst (λ a. IfOk c.read_live.result (λ reply. reply ≡ a)) (
    asked c.self.inside.host.objects.by_id (entries_in c.self.inside.host.entries) c.self.inside.host.roots c.in-Map.id c.in-Map.query
    ∙ ap (λ (w : WorldView). ask w.state (Map c.in-Map.id c.in-Map.query)) c.self.view_is
    ∙ ap (ask c.args.self.now.state) (sym c.in-Map.is)
    ) c.read_live.ensures.answer

pub returns-in-Map-clause-work : goal.returns-in-Map-clause-work
returns-in-Map-clause-work g c =
    subst (λ q. CallsAtMost (calls_of c.args.self.now.state q) c.args.self.now.work c.read_live.new.objects.work) (sym c.in-Map.is)
    (subst (λ (w : WorldView). CallsAtMost 1 w.work c.read_live.new.objects.work) c.self.view_is
    (within_call c.self.inside.host.objects.work c.read_live.new.objects.work c.read_live.ensures.work))

pub returns-in-Map-clause-room : goal.returns-in-Map-clause-room
returns-in-Map-clause-room g c all one = c.read_live.ensures.room all

pub returns-in-Start-clause-answer : goal.returns-in-Start-clause-answer
returns-in-Start-clause-answer g c =
    subst (λ a. IfOk c.start.result (λ reply. reply ≡ a)) (
    asked_start c.self-in-Start.inside.host.objects.by_id (entries_in c.self-in-Start.inside.host.entries) c.self-in-Start.inside.host.roots c.in-Start.device
    ∙ ap (λ (w : WorldView). ask w.state (Start c.in-Start.device)) c.self-in-Start.view_is
    ∙ ap (ask c.args.self.now.state) (sym c.in-Start.is)
    ) c.start.ensures

pub returns-in-Start-clause-room : goal.returns-in-Start-clause-room
returns-in-Start-clause-room g c all one = absurd (subst IsLookUp c.in-Start.is one)
