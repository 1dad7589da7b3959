use Rattle.host_state.specs.Hosts.{entries_in}
use Rattle.std.proofs.Common.{◌≡◌, ap, sym, subst, ◌∙◌, IfOk}
use Rattle.host_state.specs.declared.ask.Ask.TheVariants.{Attr, Map, Maps, Dump, Progs, Code, Pinned, Devices, Start, Fetch}
use Rattle.host_state.specs.Ask.{ask, IsLookUp}
use Rattle.host_state.specs.Work.{CallsAtMost, calls_of}
use Rattle.host_state.specs.World.{WorldView}
use Rattle.bt_changes.proofs.AskLemmas.{asked, asked_progs, asked_code, asked_attr, asked_maps, asked_dump, asked_pinned, asked_devices, asked_start, asked_fetch, calls_dump}
use Rattle.host_state.proofs.CallLemmas.{within_call}
use Rattle.bt_changes.proofs.world.World.ask_any.Goals as goal

pub returns-in-Attr-clause-answer : goal.returns-in-Attr-clause-answer
returns-in-Attr-clause-answer g c =
    c.attr_if_live.ensures
    ∙ asked_attr c.self.inside.host.objects.by_id (entries_in c.self.inside.host.entries) c.self.inside.host.roots c.in-Attr.id
    ∙ ap (λ (w : WorldView). ask w.state (Attr c.in-Attr.id)) c.self.view_is
    ∙ ap (ask c.args.self.now.state) (sym c.in-Attr.is)

pub returns-in-Map-clause-answer : goal.returns-in-Map-clause-answer
returns-in-Map-clause-answer g c =
    subst (λ a. IfOk c.read_live.result (λ reply. reply ≡ a)) (
    asked c.self.inside.host.objects.by_id (entries_in c.self.inside.host.entries) c.self.inside.host.roots c.in-Map.id c.in-Map.query
    ∙ ap (λ (w : WorldView). ask w.state (Map c.in-Map.id c.in-Map.query)) c.self.view_is
    ∙ ap (ask c.args.self.now.state) (sym c.in-Map.is)
    ) c.read_live.ensures.answer

pub returns-in-Map-clause-work : goal.returns-in-Map-clause-work
returns-in-Map-clause-work g c =
    subst (λ q. CallsAtMost (calls_of c.args.self.now.state q) c.args.self.now.work c.read_live.new.objects.work) (sym c.in-Map.is)
    (subst (λ (w : WorldView). CallsAtMost 1 w.work c.read_live.new.objects.work) c.self.view_is
    (within_call c.self.inside.host.objects.work c.read_live.new.objects.work c.read_live.ensures.work))

pub returns-in-Maps-clause-answer : goal.returns-in-Maps-clause-answer
returns-in-Maps-clause-answer g c =
    subst (λ a. IfOk c.show.result (λ reply. reply ≡ a)) (
    asked_maps c.self.inside.host.objects.by_id (entries_in c.self.inside.host.entries) c.self.inside.host.roots c.in-Maps.only
    ∙ ap (λ (w : WorldView). ask w.state (Maps c.in-Maps.only)) c.self.view_is
    ∙ ap (ask c.args.self.now.state) (sym c.in-Maps.is)
    ) c.show.ensures

pub returns-in-Dump-clause-answer : goal.returns-in-Dump-clause-answer
returns-in-Dump-clause-answer g c =
    subst (λ a. IfOk c.dump_live.result (λ reply. reply ≡ a)) (
    asked_dump c.self.inside.host.objects.by_id (entries_in c.self.inside.host.entries) c.self.inside.host.roots c.in-Dump.id
    ∙ ap (λ (w : WorldView). ask w.state (Dump c.in-Dump.id)) c.self.view_is
    ∙ ap (ask c.args.self.now.state) (sym c.in-Dump.is)
    ) c.dump_live.ensures.answer

pub returns-in-Dump-clause-work : goal.returns-in-Dump-clause-work
returns-in-Dump-clause-work g c =
    subst (λ q. CallsAtMost (calls_of c.args.self.now.state q) c.args.self.now.work c.dump_live.new.objects.work) (sym c.in-Dump.is)
    (subst (λ (w : WorldView). CallsAtMost (calls_of w.state (Dump c.in-Dump.id)) w.work c.dump_live.new.objects.work) c.self.view_is
    (subst (λ most. CallsAtMost most c.self.inside.host.objects.work c.dump_live.new.objects.work)
    (calls_dump c.self.inside.host.objects.by_id (entries_in c.self.inside.host.entries) c.self.inside.host.roots c.in-Dump.id) c.dump_live.ensures.work))

pub returns-in-Progs-clause-answer : goal.returns-in-Progs-clause-answer
returns-in-Progs-clause-answer g c =
    subst (λ a. IfOk c.show_progs.result (λ reply. reply ≡ a)) (
    asked_progs c.self.inside.host.objects.by_id (entries_in c.self.inside.host.entries) c.self.inside.host.roots c.in-Progs.only
    ∙ ap (λ (w : WorldView). ask w.state (Progs c.in-Progs.only)) c.self.view_is
    ∙ ap (ask c.args.self.now.state) (sym c.in-Progs.is)
    ) c.show_progs.ensures

pub returns-in-Code-clause-answer : goal.returns-in-Code-clause-answer
returns-in-Code-clause-answer g c =
    subst (λ a. IfOk c.code_if_live.result (λ reply. reply ≡ a)) (
    asked_code c.self.inside.host.objects.by_id (entries_in c.self.inside.host.entries) c.self.inside.host.roots c.in-Code.id
    ∙ ap (λ (w : WorldView). ask w.state (Code c.in-Code.id)) c.self.view_is
    ∙ ap (ask c.args.self.now.state) (sym c.in-Code.is)
    ) c.code_if_live.ensures

pub returns-in-Pinned-clause-answer : goal.returns-in-Pinned-clause-answer
returns-in-Pinned-clause-answer g c =
    c.pinned_there.ensures
    ∙ asked_pinned c.self.inside.host.objects.by_id (entries_in c.self.inside.host.entries) c.self.inside.host.roots c.in-Pinned.path
    ∙ ap (λ (w : WorldView). ask w.state (Pinned c.in-Pinned.path)) c.self.view_is
    ∙ ap (ask c.args.self.now.state) (sym c.in-Pinned.is)

pub returns-in-Devices-clause-answer : goal.returns-in-Devices-clause-answer
returns-in-Devices-clause-answer g c =
    subst (λ a. IfOk c.show_devices.result (λ reply. reply ≡ a)) (
    asked_devices c.self.inside.host.objects.by_id (entries_in c.self.inside.host.entries) c.self.inside.host.roots c.in-Devices.only
    ∙ ap (λ (w : WorldView). ask w.state (Devices c.in-Devices.only)) c.self.view_is
    ∙ ap (ask c.args.self.now.state) (sym c.in-Devices.is)
    ) c.show_devices.ensures

pub returns-in-Start-clause-answer : goal.returns-in-Start-clause-answer
returns-in-Start-clause-answer g c =
    subst (λ a. IfOk c.start.result (λ reply. reply ≡ a)) (
    asked_start c.self.inside.host.objects.by_id (entries_in c.self.inside.host.entries) c.self.inside.host.roots c.in-Start.device
    ∙ ap (λ (w : WorldView). ask w.state (Start c.in-Start.device)) c.self.view_is
    ∙ ap (ask c.args.self.now.state) (sym c.in-Start.is)
    ) c.start.ensures

pub returns-in-Fetch-clause-answer : goal.returns-in-Fetch-clause-answer
returns-in-Fetch-clause-answer g c =
    subst (λ a. IfOk c.fetch.result (λ reply. reply ≡ a)) (
    asked_fetch c.self.inside.host.objects.by_id (entries_in c.self.inside.host.entries) c.self.inside.host.roots c.in-Fetch.map c.in-Fetch.index
    ∙ ap (λ (w : WorldView). ask w.state (Fetch c.in-Fetch.map c.in-Fetch.index)) c.self.view_is
    ∙ ap (ask c.args.self.now.state) (sym c.in-Fetch.is)
    ) c.fetch.ensures.answer

pub returns-in-Fetch-clause-work : goal.returns-in-Fetch-clause-work
returns-in-Fetch-clause-work g c =
    subst (λ q. CallsAtMost (calls_of c.args.self.now.state q) c.args.self.now.work c.fetch.new.objects.work) (sym c.in-Fetch.is)
    (subst (λ (w : WorldView). CallsAtMost 1 w.work c.fetch.new.objects.work) c.self.view_is
    (within_call c.self.inside.host.objects.work c.fetch.new.objects.work c.fetch.ensures.work))

pub returns-in-Maps-clause-room : goal.returns-in-Maps-clause-room
returns-in-Maps-clause-room g c all one = absurd (subst IsLookUp c.in-Maps.is one)

pub returns-in-Dump-clause-room : goal.returns-in-Dump-clause-room
returns-in-Dump-clause-room g c all one = absurd (subst IsLookUp c.in-Dump.is one)

pub returns-in-Progs-clause-room : goal.returns-in-Progs-clause-room
returns-in-Progs-clause-room g c all one = absurd (subst IsLookUp c.in-Progs.is one)

pub returns-in-Code-clause-room : goal.returns-in-Code-clause-room
returns-in-Code-clause-room g c all one = absurd (subst IsLookUp c.in-Code.is one)

pub returns-in-Devices-clause-room : goal.returns-in-Devices-clause-room
returns-in-Devices-clause-room g c all one = absurd (subst IsLookUp c.in-Devices.is one)

pub returns-in-Start-clause-room : goal.returns-in-Start-clause-room
returns-in-Start-clause-room g c all one = absurd (subst IsLookUp c.in-Start.is one)

pub returns-in-Fetch-clause-room : goal.returns-in-Fetch-clause-room
returns-in-Fetch-clause-room g c all one = absurd (subst IsLookUp c.in-Fetch.is one)

pub returns-in-Map-clause-room : goal.returns-in-Map-clause-room
returns-in-Map-clause-room g c all one = c.read_live.ensures.room all
