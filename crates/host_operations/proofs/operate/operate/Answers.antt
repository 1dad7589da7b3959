use Rattle.std.proofs.Common.{◌&&◌, ◌+◌, refl, sym, ap, subst, ◌∙◌}
use Rattle.host_state.specs.Act.{act, is_console}
use Rattle.bt_roots.specs.View.{RootsView}
use Rattle.host_state.specs.declared.change.Change.TheVariants.{Operate}
use Rattle.host_undoing.specs.Answers.{Answers}
use Rattle.host_state.specs.Hosts.{entry_at, held, view_of, entries_in, live_in, frozen_of}
use Rattle.host_operations.specs.Operated.{OperatesOn, operation_fault}
use Rattle.host_state.specs.Work.{Works, holds_ids_at}
use Rattle.bt_objects.specs.Boxes.{one_more}
use Rattle.host_operations.proofs.OperatedLemmas.{may_operate, fault_acts, operation_told, operation_barred}
use Rattle.host_operations.proofs.OperationOf.{puts_none, takes_held, walks_by}
use Rattle.host_retirement.specs.Gathered.{holds_ids_in, calls_in}
use Rattle.host_operations.proofs.DoneLemmas.{entry_lives}
use Rattle.host_operations.proofs.WorkLemmas.{works_refused, live_holds, stayed}
use Rattle.host_operations.proofs.operate.operate.Goals as goal

pub returns-in-Some-clause-answer : goal.returns-in-Some-clause-answer
unfolding act
returns-in-Some-clause-answer g c = (
  (
    tt,
    fault_acts c.args.host.now.objects.by_id (entries_in c.args.host.now.entries) c.args.host.now.roots c.args.map c.args.origin c.args.op.now c.in-Some.errno (c.requires.built.same_ids c.args.map)
        (ap (operation_fault (frozen_of (held (entry_at (entries_in c.args.host.now.entries) c.args.map))) c.args.origin) (sym c.flag_of.ensures) ∙ sym c.operation_fault.ensures ∙ c.in-Some.is),
  ),
  record { state = refl; boxes = record { makes = refl; progs = λ q there. there; room = λ path there. there } },
)

pub returns-in-Some-clause-work : goal.returns-in-Some-clause-work
returns-in-Some-clause-work g c = works_refused _ _ _ (is_console c.args.origin && holds_ids_at (live_in c.args.host.now.objects.by_id (entries_in c.args.host.now.entries) c.args.map)) (calls_in c.args.host.now.objects.by_id (entries_in c.args.host.now.entries)) c.args.host.now.objects.work c.args.host.now.objects.work (stayed c.args.host.now.objects.work _)

pub returns-then-is_barred-clause-answer : goal.returns-then-is_barred-clause-answer
unfolding act
returns-then-is_barred-clause-answer g c = (
  (
    tt,
    operation_barred c.args.host.now.objects.by_id (entries_in c.args.host.now.entries) c.args.host.now.roots c.args.map c.args.origin c.args.op.now
        (may_operate _ c.args.origin _ (ap (operation_fault (frozen_of (held (entry_at (entries_in c.args.host.now.entries) c.args.map))) c.args.origin) (sym c.flag_of.ensures) ∙ sym c.operation_fault.ensures ∙ c.in_default.is))
        (c.requires.built.same_ids c.args.map) (sym c.is_barred.ensures ∙ c.if-is_barred.true),
  ),
  record { state = refl; boxes = record { makes = refl; progs = λ q there. there; room = λ path there. there } },
)

pub returns-then-is_barred-clause-work : goal.returns-then-is_barred-clause-work
returns-then-is_barred-clause-work g c = works_refused _ _ _ (is_console c.args.origin && holds_ids_at (live_in c.args.host.now.objects.by_id (entries_in c.args.host.now.entries) c.args.map)) (calls_in c.args.host.now.objects.by_id (entries_in c.args.host.now.entries)) c.args.host.now.objects.work c.args.host.now.objects.work (stayed c.args.host.now.objects.work _)

pub returns-clause-work : goal.returns-clause-work
returns-clause-work g c =
    let may = (may_operate _ c.args.origin _ (ap (operation_fault (frozen_of (held (entry_at (entries_in c.args.host.now.entries) c.args.map))) c.args.origin) (sym c.flag_of.ensures) ∙ sym c.operation_fault.ensures ∙ c.in_default.is)) in
    subst (λ b. Works b (calls_in c.args.host.now.objects.by_id (entries_in c.args.host.now.entries) + 2) c.operate_map.result c.args.host.now.objects.work (one_more c.args.host.now.objects.work) c.operate_map.new.host.objects.work)
    (takes_held c.args.host.now.objects.by_id c.args.map c.args.origin _ c.args.op.now (sym c.is_barred.ensures ∙ c.if-is_barred.false)
    ∙ walks_by c.args.origin _ (holds_ids_at (live_in c.args.host.now.objects.by_id (entries_in c.args.host.now.entries) c.args.map)) c.args.op.now (sym c.is_barred.ensures ∙ c.if-is_barred.false)
    (live_holds c.args.host.now.objects.by_id (entries_in c.args.host.now.entries) c.args.map may.entry (c.requires.built.same_ids c.args.map) may.is may.live)) c.operate_map.ensures.work

pub operate_map-requires-clause-live : goal.operate_map-requires-clause-live
operate_map-requires-clause-live g c κs within =
    let may = (may_operate _ c.args.origin _ (ap (operation_fault (frozen_of (held (entry_at (entries_in c.args.host.now.entries) c.args.map))) c.args.origin) (sym c.flag_of.ensures) ∙ sym c.operation_fault.ensures ∙ c.in_default.is)) in entry_lives _ may.entry may.is may.live

pub returns-clause-answer : goal.returns-clause-answer
returns-clause-answer g c =
    subst (λ (r : RootsView). Answers (view_of c.args.host.now.objects.by_id (entries_in c.args.host.now.entries) c.args.host.now.roots c.args.host.now.objects.work) (Operate c.args.origin c.args.map c.args.op.now) c.operate_map.result (view_of c.operate_map.new.host.objects.by_id (entries_in c.operate_map.new.host.entries) r c.operate_map.new.host.objects.work)) (sym c.operate_map.ensures.roots)
    (operation_told c.args.host.now.objects.by_id c.operate_map.new.host.objects.by_id (entries_in c.args.host.now.entries) (entries_in c.operate_map.new.host.entries) c.args.host.now.roots c.args.host.now.objects.work c.operate_map.new.host.objects.work c.args.map c.args.origin c.args.op.now
    (may_operate _ c.args.origin _ (ap (operation_fault (frozen_of (held (entry_at (entries_in c.args.host.now.entries) c.args.map))) c.args.origin) (sym c.flag_of.ensures) ∙ sym c.operation_fault.ensures ∙ c.in_default.is))
    (sym c.is_barred.ensures ∙ c.if-is_barred.false) c.operate_map.result
    (subst (λ (r : RootsView). OperatesOn (view_of c.args.host.now.objects.by_id (entries_in c.args.host.now.entries) c.args.host.now.roots c.args.host.now.objects.work) c.args.map c.args.op.now c.operate_map.result (view_of c.operate_map.new.host.objects.by_id (entries_in c.operate_map.new.host.entries) r c.operate_map.new.host.objects.work)) c.operate_map.ensures.roots c.operate_map.ensures.operated))

pub operate_map-requires-clause-puts : goal.operate_map-requires-clause-puts
operate_map-requires-clause-puts g c κs within =
    puts_none c.args.host.now.objects.by_id (entries_in c.args.host.now.entries) c.args.map c.args.origin (holds_ids_in c.args.host.now.objects.by_id c.args.map) c.args.op.now (sym c.is_barred.ensures ∙ c.if-is_barred.false)
