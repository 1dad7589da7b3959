use Rattle.host_state.specs.Hosts.{entries_in}
use Rattle.std.proofs.lemmas.List.Sums.{sum_by-cons}
use Rattle.host_state.specs.declared.entry.MapEntry.{MapEntry}
use Rattle.host_state.specs.Work.{CallsAtMost}
use Rattle.host_state.proofs.CallLemmas.{made_more, made_within}
use Rattle.host_retirement.proofs.WalkLemmas.{walk_within}
use Rattle.host_retirement.proofs.GatherLemmas.{one_gathered, gathered}
use Rattle.std.proofs.Common.{◌++◌, ℕ, Option, ap, subst, ◌∙◌}
use Rattle.std.specs.List.{flat_map, sum_by}
use Rattle.bt_mapkind.specs.Seen.{Seen}
use Rattle.bt_objects.specs.Boxes.{ById}
use Rattle.host_retirement.specs.Gathered.{links_by, calls_by}
use Rattle.host_retirement.proofs.retire.map_links.Goals as goal

pub loop-id-preserved : goal.loop-id-preserved
loop-id-preserved g c = (
  made_more (sum_by (λ e. calls_by c.args.objects.now.by_id e.0 e.1) (entries_in c.args.entries.now).maps) (sum_by (λ e. calls_by c.args.objects.now.by_id e.0 e.1) c.loop-id.id-iterator)
      (calls_by c.args.objects.now.by_id c.in-Some.id.now c.in-Some.entry.now) (sum_by (λ e. calls_by c.args.objects.now.by_id e.0 e.1) c.next.new.self) c.args.objects.now.work c.loop-id.objects.work c.add_links.new.objects.work
      (ap (sum_by (λ (e : ℕ × Option MapEntry). calls_by c.args.objects.now.by_id e.0 e.1)) c.in-Some.ensures.steps ∙ sum_by-cons (λ (e : ℕ × Option MapEntry). calls_by c.args.objects.now.by_id e.0 e.1) (c.in-Some.id.now, c.in-Some.entry.now) c.next.new.self)
      c.loop-id.invariant.0
      (subst (λ (b : ById Seen). CallsAtMost (calls_by b c.in-Some.id.now c.in-Some.entry.now) c.loop-id.objects.work c.add_links.new.objects.work) c.loop-id.invariant.1 c.add_links.ensures.work),
  c.add_links.ensures.same ∙ c.loop-id.invariant.1,
  one_gathered (λ e. links_by c.args.objects.now.by_id e.0 e.1) c.loop-id.id-iterator c.next.new.self (c.in-Some.id.now, c.in-Some.entry.now) c.loop-id.links.items c.add_links.new.links.items
      (flat_map (λ e. links_by c.args.objects.now.by_id e.0 e.1) (entries_in c.args.entries.now).maps) c.loop-id.invariant.2 c.in-Some.ensures.steps
      (c.in_ok-add_links.ensures.links ∙ ap (λ (b : ById Seen). c.loop-id.links.items ++ links_by b c.in-Some.id.now c.in-Some.entry.now) c.loop-id.invariant.1),
)

pub returns-in_err-add_links-clause-work : goal.returns-in_err-add_links-clause-work
returns-in_err-add_links-clause-work g c =
    made_within (sum_by (λ e. calls_by c.args.objects.now.by_id e.0 e.1) (entries_in c.args.entries.now).maps) (sum_by (λ e. calls_by c.args.objects.now.by_id e.0 e.1) c.next.new.self) _ c.args.objects.now.work c.add_links.new.objects.work
    (walk_within c.args.objects.now.by_id (entries_in c.args.entries.now) c.requires c.iter-id-items.ensures.ordered)
    (made_more (sum_by (λ e. calls_by c.args.objects.now.by_id e.0 e.1) (entries_in c.args.entries.now).maps) (sum_by (λ e. calls_by c.args.objects.now.by_id e.0 e.1) c.loop-id.id-iterator)
    (calls_by c.args.objects.now.by_id c.in-Some.id.now c.in-Some.entry.now) (sum_by (λ e. calls_by c.args.objects.now.by_id e.0 e.1) c.next.new.self) c.args.objects.now.work c.loop-id.objects.work c.add_links.new.objects.work
    (ap (sum_by (λ (e : ℕ × Option MapEntry). calls_by c.args.objects.now.by_id e.0 e.1)) c.in-Some.ensures.steps ∙ sum_by-cons (λ (e : ℕ × Option MapEntry). calls_by c.args.objects.now.by_id e.0 e.1) (c.in-Some.id.now, c.in-Some.entry.now) c.next.new.self)
    c.loop-id.invariant.0
    (subst (λ (b : ById Seen). CallsAtMost (calls_by b c.in-Some.id.now c.in-Some.entry.now) c.loop-id.objects.work c.add_links.new.objects.work) c.loop-id.invariant.1 c.add_links.ensures.work))

pub returns-clause-work : goal.returns-clause-work
returns-clause-work g c =
    made_within (sum_by (λ e. calls_by c.args.objects.now.by_id e.0 e.1) (entries_in c.args.entries.now).maps) (sum_by (λ e. calls_by c.args.objects.now.by_id e.0 e.1) c.loop-id.id-iterator) _ c.args.objects.now.work c.loop-id.objects.work
    (walk_within c.args.objects.now.by_id (entries_in c.args.entries.now) c.requires c.iter-id-items.ensures.ordered) c.loop-id.invariant.0

pub returns-clause-links : goal.returns-clause-links
returns-clause-links g c = gathered c.args.objects.now.by_id (entries_in c.args.entries.now) c.requires c.iter-id-items.ensures.ordered c.loop-id.id-iterator c.loop-id.links.items c.in-None.ensures.steps.0 c.loop-id.invariant.2
