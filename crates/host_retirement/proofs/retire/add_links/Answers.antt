use Rattle.std.specs.Prelude.{zero}
use Rattle.std.specs.FinMap as map
use Rattle.std.proofs.Common.{sym, ◌∙◌, refl, arith}
use Rattle.host_retirement.specs.Gathered.{count_at}
use Rattle.host_retirement.proofs.WalkLemmas.{read_within}
use Rattle.host_retirement.proofs.retire.add_links.Goals as goal

pub returns-clause-work : goal.returns-clause-work
returns-clause-work g c =
    read_within c.args.objects.now.by_id c.args.id c.args.entry.now c.in-Some.make c.in_ok-count.count c.args.objects.now.work c.count_elements.new.objects.work c.add_first.new.objects.work
    c.if-is_none.ensures (sym c.in-Some.is ∙ c.make_at.ensures) (sym c.holds_ids.ensures ∙ c.if-not-holds_ids.false) c.in_ok-count.ensures.count c.count_elements.ensures.work c.add_first.ensures.work

pub returns-in_err-count-clause-work : goal.returns-in_err-count-clause-work
returns-in_err-count-clause-work g c =
    read_within c.args.objects.now.by_id c.args.id c.args.entry.now c.in-Some.make (count_at (map.get c.args.objects.now.by_id c.args.id)) c.args.objects.now.work c.count_elements.new.objects.work c.count_elements.new.objects.work
    c.if-is_none.ensures (sym c.in-Some.is ∙ c.make_at.ensures) (sym c.holds_ids.ensures ∙ c.if-not-holds_ids.false) refl c.count_elements.ensures.work (zero, omega arith, refl)
