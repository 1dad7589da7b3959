use Rattle.std.proofs.Common.{◌≡◌, ℕ, ◌<◌, not, List, filter, length, sym, ◌∙◌, ap, subst, arith}
use Rattle.bt_roots.specs.declared.target.Target.{Target}
use Rattle.bt_roots.specs.declared.target.Target.TheVariants.{Map, Prog}
use Rattle.host_state.specs.Settled.{is_listed}
use Rattle.journal_record.specs.Recorded.{Recorded}
use Rattle.journal_record.specs.Records.{retired_by}
use Rattle.journal_record.specs.Listed.{Rises}
use Rattle.journal_record.proofs.AscendLemmas.{Rises-some, filter-first, filter-next}
use Rattle.journal_record.proofs.retired.take_out_retired.Goals as goal

pub loop-index-init : goal.loop-index-init
loop-index-init c = record {
  maps_rise = c.requires.maps;
  progs_rise = c.requires.progs;
  maps_left = filter-first (λ id r. is_listed (retired_by r) (Map id)) c.args.records.now.items c.args.maps.now.items;
  progs_left = filter-first (λ id r. is_listed (retired_by r) (Prog id)) c.args.records.now.items c.args.progs.now.items;
}

pub loop-index-preserved : goal.loop-index-preserved
loop-index-preserved c =
    let rs : List Recorded = c.args.records.now.items in
    let i : ℕ = c.loop-index.index in
    let r : Recorded = c.index.result.now in
    let within : i < length rs = omega (arith, c.loop-index-test.true, c.requires.within, c.args.records.now.ok.0) in
    let old = c.loop-index.invariant in
    let new = c.take_out_each.new in
    let maps : new.maps.items ≡ filter (λ id. not (is_listed (retired_by r) (Map id))) c.loop-index.maps.items =
    c.take_out_each.ensures.maps ∙ ap (λ (ts : List Target). filter (λ id. not (is_listed ts (Map id))) c.loop-index.maps.items) c.retired.ensures in
    let progs : new.progs.items ≡ filter (λ id. not (is_listed (retired_by r) (Prog id))) c.loop-index.progs.items =
    c.take_out_each.ensures.progs ∙ ap (λ (ts : List Target). filter (λ id. not (is_listed ts (Prog id))) c.loop-index.progs.items) c.retired.ensures in
    record {
      maps_rise = subst Rises (sym maps) (Rises-some _ c.loop-index.maps.items old.maps_rise);
      progs_rise = subst Rises (sym progs) (Rises-some _ c.loop-index.progs.items old.progs_rise);
      maps_left = filter-next (λ id r. is_listed (retired_by r) (Map id)) rs i r c.args.maps.now.items c.loop-index.maps.items new.maps.items within c.index.ensures old.maps_left maps;
      progs_left = filter-next (λ id r. is_listed (retired_by r) (Prog id)) rs i r c.args.progs.now.items c.loop-index.progs.items new.progs.items within c.index.ensures old.progs_left progs;
    }
