use Rattle.std.proofs.Common.{ℕ, List, ◌+◌, refl, sym, ap, subst, ◌∙◌}
use Rattle.std.specs.FinMap as map
use Rattle.bt_objects.specs.Boxes.{one_more}
use Rattle.host_state.specs.declared.change.Origin.TheVariants.{Console}
use Rattle.host_retirement.specs.Gathered.{calls_in}
use Rattle.bt_roots.specs.View.{RootsView}
use Rattle.host_state.specs.declared.change.Change.TheVariants.{Link}
use Rattle.host_undoing.specs.Answers.{Answers}
use Rattle.host_state.specs.Hosts.{view_of, entries_in, live_in}
use Rattle.host_state.specs.Work.{Works, has_link_under}
use Rattle.host_operations.specs.Operated.{PutsLive, OperatesOn, takes_link_at}
use Rattle.bt_mapkind.specs.declared.request.MapOp.TheVariants.{SetLink as SetLinkOp}
use Rattle.host_operations.proofs.OperatedLemmas.{may_operate}
use Rattle.host_operations.proofs.DoneLemmas.{entry_lives}
use Rattle.host_operations.proofs.WorkLemmas.{works_refused, stayed, live_links}
use Rattle.host_operations.proofs.LinkLemmas.{link_barred, link_faulty, link_puts, link_told, linked_good}
use Rattle.host_operations.proofs.link.link.Goals as goal

pub returns-in-Some-clause-answer : goal.returns-in-Some-clause-answer
returns-in-Some-clause-answer g c = (
  (tt, link_barred c.args.host.now.objects.by_id (entries_in c.args.host.now.entries) c.args.host.now.roots c.args.map c.args.key.now c.args.id c.args.flag c.in-Some.errno (c.requires.built.same_ids c.args.map) (sym c.operation_fault.ensures ∙ c.in-Some.is)),
  record { state = refl; boxes = record { makes = refl; progs = λ q there. there; room = λ path there. there } },
)

pub link_fault-requires-clause-good_attr : goal.link_fault-requires-clause-good_attr
link_fault-requires-clause-good_attr g c κs within = linked_good c.args.host.now.objects.by_id (entries_in c.args.host.now.entries) c.args.host.now.roots c.args.map c.args.key.now c.args.id c.args.flag (c.requires.built.same_ids c.args.map) (may_operate _ Console c.args.flag (sym c.operation_fault.ensures ∙ c.in_default.is)) (c.requires.built.good_attr c.args.map)

pub returns-in-Some-link_fault-clause-answer : goal.returns-in-Some-link_fault-clause-answer
returns-in-Some-link_fault-clause-answer g c = (
  (tt, link_faulty c.args.host.now.objects.by_id (entries_in c.args.host.now.entries) c.args.host.now.roots c.args.map c.args.key.now c.args.id c.args.flag (c.requires.built.same_ids c.args.map) (may_operate _ Console c.args.flag (sym c.operation_fault.ensures ∙ c.in_default.is)) c.in-Some-link_fault.errno (sym c.link_fault.ensures ∙ c.in-Some-link_fault.is)),
  record { state = refl; boxes = record { makes = refl; progs = λ q there. there; room = λ path there. there } },
)

pub operate_map-requires-clause-live : goal.operate_map-requires-clause-live
operate_map-requires-clause-live g c κs within = let may = (may_operate _ Console c.args.flag (sym c.operation_fault.ensures ∙ c.in_default.is)) in entry_lives _ may.entry may.is may.live

pub operate_map-requires-clause-puts : goal.operate_map-requires-clause-puts
operate_map-requires-clause-puts g c κs within =
    subst (λ (k : List ℕ). PutsLive c.args.host.now.objects.by_id (entries_in c.args.host.now.entries) c.args.map (SetLinkOp k c.args.id c.args.flag)) (sym c.copy.ensures) (link_puts c.args.host.now.objects.by_id (entries_in c.args.host.now.entries) c.args.host.now.roots c.args.map c.args.key.now c.args.id c.args.flag (c.requires.built.same_ids c.args.map) (may_operate _ Console c.args.flag (sym c.operation_fault.ensures ∙ c.in_default.is)) (sym c.link_fault.ensures ∙ c.in_default-link_fault.is))

pub returns-clause-answer : goal.returns-clause-answer
returns-clause-answer g c =
    subst (λ (r : RootsView). Answers (view_of c.args.host.now.objects.by_id (entries_in c.args.host.now.entries) c.args.host.now.roots c.args.host.now.objects.work) (Link c.args.map c.args.key.now c.args.id c.args.flag) c.operate_map.result (view_of c.operate_map.new.host.objects.by_id (entries_in c.operate_map.new.host.entries) r c.operate_map.new.host.objects.work)) (sym c.operate_map.ensures.roots)
    (link_told c.args.host.now.objects.by_id (entries_in c.args.host.now.entries) c.args.host.now.roots c.args.map c.args.key.now c.args.id c.args.flag (c.requires.built.same_ids c.args.map) (may_operate _ Console c.args.flag (sym c.operation_fault.ensures ∙ c.in_default.is)) (sym c.link_fault.ensures ∙ c.in_default-link_fault.is) c.operate_map.new.host.objects.by_id (entries_in c.operate_map.new.host.entries) c.args.host.now.objects.work c.operate_map.new.host.objects.work c.operate_map.result
    (subst (λ (k : List ℕ). OperatesOn (view_of c.args.host.now.objects.by_id (entries_in c.args.host.now.entries) c.args.host.now.roots c.args.host.now.objects.work) c.args.map (SetLinkOp k c.args.id c.args.flag) c.operate_map.result (view_of c.operate_map.new.host.objects.by_id (entries_in c.operate_map.new.host.entries) c.args.host.now.roots c.operate_map.new.host.objects.work)) c.copy.ensures
    (subst (λ (r : RootsView). OperatesOn (view_of c.args.host.now.objects.by_id (entries_in c.args.host.now.entries) c.args.host.now.roots c.args.host.now.objects.work) c.args.map (SetLinkOp c.copy.result c.args.id c.args.flag) c.operate_map.result (view_of c.operate_map.new.host.objects.by_id (entries_in c.operate_map.new.host.entries) r c.operate_map.new.host.objects.work)) c.operate_map.ensures.roots c.operate_map.ensures.operated)))

pub returns-in-Some-clause-work : goal.returns-in-Some-clause-work
returns-in-Some-clause-work g c =
    works_refused _ _ _ (has_link_under (live_in c.args.host.now.objects.by_id (entries_in c.args.host.now.entries) c.args.map) c.args.key.now) (calls_in c.args.host.now.objects.by_id (entries_in c.args.host.now.entries)) c.args.host.now.objects.work c.args.host.now.objects.work (stayed _ _)

pub returns-in-Some-link_fault-clause-work : goal.returns-in-Some-link_fault-clause-work
returns-in-Some-link_fault-clause-work g c =
    works_refused _ _ _ (has_link_under (live_in c.args.host.now.objects.by_id (entries_in c.args.host.now.entries) c.args.map) c.args.key.now) (calls_in c.args.host.now.objects.by_id (entries_in c.args.host.now.entries)) c.args.host.now.objects.work c.args.host.now.objects.work (stayed _ _)

pub returns-clause-work : goal.returns-clause-work
returns-clause-work g c =
    let may = may_operate _ Console c.args.flag (sym c.operation_fault.ensures ∙ c.in_default.is) in
    subst (λ b. Works b (calls_in c.args.host.now.objects.by_id (entries_in c.args.host.now.entries) + 2) c.operate_map.result c.args.host.now.objects.work (one_more c.args.host.now.objects.work) c.operate_map.new.host.objects.work)
    (ap (λ (k : List ℕ). takes_link_at (map.get c.args.host.now.objects.by_id c.args.map) (SetLinkOp k c.args.id c.args.flag)) c.copy.ensures
    ∙ live_links c.args.host.now.objects.by_id (entries_in c.args.host.now.entries) c.args.map c.args.key.now c.args.id c.args.flag may.entry (c.requires.built.same_ids c.args.map) may.is may.live)
    c.operate_map.ensures.work
