use Rattle.std.proofs.Common.{ℕ, List, sym, subst}
use Rattle.bt_roots.specs.Live.{is_same}
use Rattle.bt_roots.specs.declared.target.Target.{Target}
use Rattle.bt_roots.specs.declared.target.Target.TheVariants.{Map, Prog}
use Rattle.journal_record.specs.Listed.{Rises}
use Rattle.journal_record.proofs.AscendLemmas.{Rises-some, filter-first, filter-next, get_or-any}
use Rattle.journal_record.proofs.retired.take_out_each.Goals as goal

pub loop-target-init : goal.loop-target-init
loop-target-init c = record {
  maps_rise = c.requires.maps;
  progs_rise = c.requires.progs;
  maps_left = filter-first (λ id t. is_same (Map id) t) c.args.targets.now c.args.maps.now.items;
  progs_left = filter-first (λ id t. is_same (Prog id) t) c.args.targets.now c.args.progs.now.items;
}

pub loop-target-preserved : goal.loop-target-preserved
loop-target-preserved c =
    let targets : List Target = c.args.targets.now in
    let i : ℕ = c.loop-target.target-index in
    let old = c.loop-target.invariant in
    let new = c.take_out_one.new in
    record {
      maps_rise = subst Rises (sym c.take_out_one.ensures.maps) (Rises-some _ c.loop-target.maps.items old.maps_rise);
      progs_rise = subst Rises (sym c.take_out_one.ensures.progs) (Rises-some _ c.loop-target.progs.items old.progs_rise);
      maps_left = filter-next (λ id t. is_same (Map id) t) targets i _ c.args.maps.now.items c.loop-target.maps.items new.maps.items c.loop-target-test.true (get_or-any targets i _ _ c.loop-target-test.true) old.maps_left c.take_out_one.ensures.maps;
      progs_left = filter-next (λ id t. is_same (Prog id) t) targets i _ c.args.progs.now.items c.loop-target.progs.items new.progs.items c.loop-target-test.true (get_or-any targets i _ _ c.loop-target-test.true) old.progs_left c.take_out_one.ensures.progs;
    }
