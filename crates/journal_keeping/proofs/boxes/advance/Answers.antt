use Rattle.std.proofs.Common.{◌≡◌, ◌||◌, not, ℕ, List, filter, sym, ◌∙◌, ap, subst, arith}
use Rattle.std.specs.Prelude.{nat_lt}
use Rattle.std.specs.FinMap as map
use Rattle.bt_objects.specs.Ids.{is_among}
use Rattle.bt_objects.specs.declared.make.Make.{Make}
use Rattle.bt_roots.specs.declared.target.Target.TheVariants.{Map, Prog}
use Rattle.bt_objects.specs.ById.{ById}
use Rattle.host_state.specs.State.{State}
use Rattle.journal_model.specs.Plain.{Pasts, now}
use Rattle.journal_model.specs.Rebase.{advanced}
use Rattle.journal_model.specs.Well.{Each}
use Rattle.journal_timeline.specs.Rebased.{ListsAllLeft, kept_pasts}
use Rattle.journal_timeline.specs.Retired.{has_retired}
use Rattle.journal_timeline.specs.Listed.{Rises}
use Rattle.journal_timeline.proofs.AscendLemmas.{Rises-some}
use Rattle.journal_keeping.specs.Boxes.{KeepsBoxes, IsUpTo, states_of, lasts_of}
use Rattle.journal_keeping.specs.declared.ids.LastIds.{LastIds}
use Rattle.journal_keeping.proofs.AdvanceLemmas.{Later, later, last_is, maps_kept, progs_kept, maps_then, progs_then, keeps_after, listed_after, pasts_after, before as then, last as last_then}
use Rattle.journal_keeping.proofs.BoxesLemmas.{base_lives}
use Rattle.journal_keeping.proofs.RebaseLemmas.{makes_left, enough_lasts, lasts_rebased}
use Rattle.journal_keeping.proofs.boxes.advance.Goals as goal

pub advance-requires : goal.advance-requires
advance-requires g c =
    let p : Pasts = c.args.line.now.pasts in
    let ids = c.args.ids.now in
    omega (arith, c.requires.within, ids.lasts.ok.0, enough_lasts c.args.line.now.makes ids.maps.items ids.progs.items p ids.base ids.lasts.items c.requires.boxes)

pub take_out_retired-requires-clause-lives : goal.take_out_retired-requires-clause-lives
take_out_retired-requires-clause-lives g c κs bounds =
    let ids = c.args.ids.now in
    base_lives c.args.line.now.makes c.args.line.now.pasts (lasts_of ids.base ids.lasts.items) ids.maps.items ids.progs.items c.requires.boxes

pub take_out_retired-requires-clause-maps : goal.take_out_retired-requires-clause-maps
take_out_retired-requires-clause-maps g c κs bounds =
    subst Rises (sym c.keep_maps_there.ensures) (Rises-some _ c.advance.new.self.maps.items (subst Rises (sym c.advance.ensures.maps) c.requires.boxes.maps_ascend))

pub take_out_retired-requires-clause-progs : goal.take_out_retired-requires-clause-progs
take_out_retired-requires-clause-progs g c κs bounds =
    subst Rises (sym c.keep_progs_there.ensures) (Rises-some _ c.advance.new.self.progs.items (subst Rises (sym c.advance.ensures.progs) c.requires.boxes.progs_ascend))

pub drop_retired-requires-clause-maps : goal.drop_retired-requires-clause-maps
drop_retired-requires-clause-maps g c κs bounds =
    subst Rises (sym c.take_out_retired.ensures.maps) (Rises-some _ c.keep_maps_there.new.ids.items
    (subst Rises (sym c.keep_maps_there.ensures) (Rises-some _ c.advance.new.self.maps.items (subst Rises (sym c.advance.ensures.maps) c.requires.boxes.maps_ascend))))

pub drop_retired-requires-clause-progs : goal.drop_retired-requires-clause-progs
drop_retired-requires-clause-progs g c κs bounds =
    subst Rises (sym c.take_out_retired.ensures.progs) (Rises-some _ c.keep_progs_there.new.ids.items
    (subst Rises (sym c.keep_progs_there.ensures) (Rises-some _ c.advance.new.self.progs.items (subst Rises (sym c.advance.ensures.progs) c.requires.boxes.progs_ascend))))

pub drop_retired-requires-clause-listed : goal.drop_retired-requires-clause-listed
drop_retired-requires-clause-listed g c κs bounds =
    let p : Pasts = c.args.line.now.pasts in
    let ids = c.args.ids.now in
    let makes : ById Make = c.args.line.now.makes in
    let n : ℕ = c.args.count in
    let w : State = now (then makes ids.maps.items ids.progs.items p ids.base ids.lasts.items n c.requires.within c.requires.boxes) in
    let l : LastIds = last_then makes ids.maps.items ids.progs.items p ids.base ids.lasts.items n c.requires.within c.requires.boxes in
    let since : Later w (now p) l = later makes ids.maps.items ids.progs.items p ids.base ids.lasts.items n c.requires.within c.requires.boxes c.take_out_retired.ensures.stay in
    let last : c.advance.new.self.base ≡ l = c.advance.ensures.base ∙ last_is makes ids.maps.items ids.progs.items p ids.base ids.lasts.items n c.requires.within c.requires.boxes in
    let maps : c.take_out_retired.new.maps.items ≡ maps_then makes ids.maps.items ids.progs.items p ids.base ids.lasts.items n c.requires.within c.requires.boxes =
    c.take_out_retired.ensures.maps ∙ ap (filter (λ id. not (has_retired w (Map id)))) (c.keep_maps_there.ensures ∙ (λ i. filter (λ id. nat_lt (last i).map_id id || map.contains_key (now p).maps id) (c.advance.ensures.maps i))) ∙ maps_kept w (now p) l since ids.maps.items in
    let progs : c.take_out_retired.new.progs.items ≡ progs_then makes ids.maps.items ids.progs.items p ids.base ids.lasts.items n c.requires.within c.requires.boxes =
    c.take_out_retired.ensures.progs ∙ ap (filter (λ id. not (has_retired w (Prog id)))) (c.keep_progs_there.ensures ∙ (λ i. filter (λ id. nat_lt (last i).prog_id id || map.contains_key (now p).progs id) (c.advance.ensures.progs i))) ∙ progs_kept w (now p) l since ids.progs.items in
    subst (λ (x : List ℕ × (List ℕ × Pasts)). ListsAllLeft x.0 x.1.0 x.1.1) (λ i. (sym maps i, (sym progs i, sym c.advance-2.ensures.pasts i)))
    (listed_after makes ids.maps.items ids.progs.items p ids.base ids.lasts.items n c.requires.within c.requires.boxes)

pub returns-clause-boxes : goal.returns-clause-boxes
returns-clause-boxes g c =
    let p : Pasts = c.args.line.now.pasts in
    let ids = c.args.ids.now in
    let makes : ById Make = c.args.line.now.makes in
    let n : ℕ = c.args.count in
    let w : State = now (then makes ids.maps.items ids.progs.items p ids.base ids.lasts.items n c.requires.within c.requires.boxes) in
    let l : LastIds = last_then makes ids.maps.items ids.progs.items p ids.base ids.lasts.items n c.requires.within c.requires.boxes in
    let ms : List ℕ = maps_then makes ids.maps.items ids.progs.items p ids.base ids.lasts.items n c.requires.within c.requires.boxes in
    let ps : List ℕ = progs_then makes ids.maps.items ids.progs.items p ids.base ids.lasts.items n c.requires.within c.requires.boxes in
    let since : Later w (now p) l = later makes ids.maps.items ids.progs.items p ids.base ids.lasts.items n c.requires.within c.requires.boxes c.take_out_retired.ensures.stay in
    let last : c.advance.new.self.base ≡ l = c.advance.ensures.base ∙ last_is makes ids.maps.items ids.progs.items p ids.base ids.lasts.items n c.requires.within c.requires.boxes in
    let maps : c.take_out_retired.new.maps.items ≡ ms =
    c.take_out_retired.ensures.maps ∙ ap (filter (λ id. not (has_retired w (Map id)))) (c.keep_maps_there.ensures ∙ (λ i. filter (λ id. nat_lt (last i).map_id id || map.contains_key (now p).maps id) (c.advance.ensures.maps i))) ∙ maps_kept w (now p) l since ids.maps.items in
    let progs : c.take_out_retired.new.progs.items ≡ ps =
    c.take_out_retired.ensures.progs ∙ ap (filter (λ id. not (has_retired w (Prog id)))) (c.keep_progs_there.ensures ∙ (λ i. filter (λ id. nat_lt (last i).prog_id id || map.contains_key (now p).progs id) (c.advance.ensures.progs i))) ∙ progs_kept w (now p) l since ids.progs.items in
    let u = c.drop_retired.ensures in
    let pasts : c.drop_retired.new.line.pasts ≡ advanced n p =
    u.pasts ∙ (λ i. kept_pasts (maps i) (progs i) (c.advance-2.ensures.pasts i)) ∙ pasts_after makes ids.maps.items ids.progs.items p ids.base ids.lasts.items n c.requires.within c.requires.boxes in
    let boxes : c.drop_retired.new.line.makes ≡ makes_left makes ids.maps.items ids.progs.items w l =
    u.boxes ∙ (λ i. map.retain_keys (c.advance-2.ensures.boxes i) (is_among (maps i))) in
    subst (λ (x : ById Make × (Pasts × (LastIds × (List LastIds × (List ℕ × List ℕ))))). KeepsBoxes x.0 (states_of x.1.0) (lasts_of x.1.1.0 x.1.1.1.0) x.1.1.1.1.0 x.1.1.1.1.1)
    (λ i. (sym boxes i, (sym pasts i, (sym last i, (sym c.advance.ensures.lasts i, (sym (u.maps ∙ maps) i, sym (u.progs ∙ progs) i))))))
    (keeps_after makes ids.maps.items ids.progs.items p ids.base ids.lasts.items n c.requires.within c.requires.boxes)

pub returns-clause-pasts : goal.returns-clause-pasts
returns-clause-pasts g c =
    let p : Pasts = c.args.line.now.pasts in
    let ids = c.args.ids.now in
    let makes : ById Make = c.args.line.now.makes in
    let n : ℕ = c.args.count in
    let w : State = now (then makes ids.maps.items ids.progs.items p ids.base ids.lasts.items n c.requires.within c.requires.boxes) in
    let l : LastIds = last_then makes ids.maps.items ids.progs.items p ids.base ids.lasts.items n c.requires.within c.requires.boxes in
    let since : Later w (now p) l = later makes ids.maps.items ids.progs.items p ids.base ids.lasts.items n c.requires.within c.requires.boxes c.take_out_retired.ensures.stay in
    let last : c.advance.new.self.base ≡ l = c.advance.ensures.base ∙ last_is makes ids.maps.items ids.progs.items p ids.base ids.lasts.items n c.requires.within c.requires.boxes in
    let maps : c.take_out_retired.new.maps.items ≡ maps_then makes ids.maps.items ids.progs.items p ids.base ids.lasts.items n c.requires.within c.requires.boxes =
    c.take_out_retired.ensures.maps ∙ ap (filter (λ id. not (has_retired w (Map id)))) (c.keep_maps_there.ensures ∙ (λ i. filter (λ id. nat_lt (last i).map_id id || map.contains_key (now p).maps id) (c.advance.ensures.maps i))) ∙ maps_kept w (now p) l since ids.maps.items in
    let progs : c.take_out_retired.new.progs.items ≡ progs_then makes ids.maps.items ids.progs.items p ids.base ids.lasts.items n c.requires.within c.requires.boxes =
    c.take_out_retired.ensures.progs ∙ ap (filter (λ id. not (has_retired w (Prog id)))) (c.keep_progs_there.ensures ∙ (λ i. filter (λ id. nat_lt (last i).prog_id id || map.contains_key (now p).progs id) (c.advance.ensures.progs i))) ∙ progs_kept w (now p) l since ids.progs.items in
    c.drop_retired.ensures.pasts ∙ (λ i. kept_pasts (maps i) (progs i) (c.advance-2.ensures.pasts i))
    ∙ pasts_after makes ids.maps.items ids.progs.items p ids.base ids.lasts.items n c.requires.within c.requires.boxes

pub returns-clause-lasts : goal.returns-clause-lasts
returns-clause-lasts g c = λ last h.
    let ids = c.args.ids.now in
    subst (λ (x : LastIds × List LastIds). Each (IsUpTo last) (lasts_of x.0 x.1)) (λ i. (sym c.advance.ensures.base i, sym c.advance.ensures.lasts i)) (lasts_rebased last ids.base ids.lasts.items c.args.count h)
