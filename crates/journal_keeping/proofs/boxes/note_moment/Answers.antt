use Rattle.std.proofs.Common.{◌-◌, ◌≤◌, ◌∷◌, [], ◌++◌, List, ℕ, refl, subst, sym, ap, ◌∙◌, arith, length}
use Rattle.std.specs.Prelude.{option_to_list}
use Rattle.std.specs.FinMap as map
use Rattle.bt_objects.specs.Ids.{is_among}
use Rattle.journal_model.specs.Told.{id_told, prog_told}
use Rattle.journal_model.specs.Plain.{Pasts}
use Rattle.journal_model.specs.Well.{Each}
use Rattle.journal_keeping.specs.Boxes.{KeepsBoxes, IsUpTo, states_of, lasts_of}
use Rattle.journal_timeline.specs.Listed.{Rises, ListsPasts}
use Rattle.journal_keeping.specs.declared.ids.LastIds.{LastIds}
use Rattle.journal_keeping.proofs.BoxesLemmas.{has_listed}
use Rattle.journal_keeping.proofs.MadeLemmas.{noted_more, noted_less, noted_lasts, some_moment}
use Rattle.journal_keeping.proofs.boxes.note_moment.Goals as goal

pub returns-then-len-standing-clause-boxes : goal.returns-then-len-standing-clause-boxes
returns-then-len-standing-clause-boxes g c =
    let line = c.args.line.now in
    let ids = c.args.ids.now in
    let h = c.requires.made in
    let one : 1 ≤ length line.pasts.moments = some_moment line (lasts_of ids.base ids.lasts.items) ids.maps.items ids.progs.items c.args.last c.args.reply.now h in
    subst (λ (x : LastIds × (List LastIds × (List ℕ × List ℕ))). KeepsBoxes line.makes (states_of line.pasts) (lasts_of x.0 x.1.0) x.1.1.0 x.1.1.1) (λ i. (sym c.add.ensures.base i, (sym c.add.ensures.lasts i, (sym c.add.ensures.maps i, sym c.add.ensures.progs i))))
    (noted_more ids.base line ids.lasts.items ids.maps.items ids.progs.items c.args.last c.args.reply.now h (omega (arith, one, c.if-len-standing.true, c.len.ensures, c.moment_count.ensures, ids.lasts.ok.0)))

pub keep_only-requires-clause-maps : goal.keep_only-requires-clause-maps
keep_only-requires-clause-maps g c κs within =
    let line = c.args.line.now in
    let ids = c.args.ids.now in
    let h = c.requires.made in
    let n : ℕ = c.moment_count.result - 1 in
    let one : 1 ≤ length line.pasts.moments = some_moment line (lasts_of ids.base ids.lasts.items) ids.maps.items ids.progs.items c.args.last c.args.reply.now h in
    subst Rises (sym (c.add-2.ensures.maps ∙ ap (λ ms. ms ++ option_to_list (id_told c.args.reply.now)) c.give_up.ensures.maps))
    (noted_less ids.base line n ids.lasts.items ids.maps.items ids.progs.items c.args.last c.args.reply.now _ h (omega (arith, one, c.moment_count.ensures)) refl).maps_ascend

pub keep_only-requires-clause-progs : goal.keep_only-requires-clause-progs
keep_only-requires-clause-progs g c κs within =
    let line = c.args.line.now in
    let ids = c.args.ids.now in
    let h = c.requires.made in
    let n : ℕ = c.moment_count.result - 1 in
    let one : 1 ≤ length line.pasts.moments = some_moment line (lasts_of ids.base ids.lasts.items) ids.maps.items ids.progs.items c.args.last c.args.reply.now h in
    subst Rises (sym (c.add-2.ensures.progs ∙ ap (λ ms. ms ++ option_to_list (prog_told c.args.reply.now)) c.give_up.ensures.progs))
    (noted_less ids.base line n ids.lasts.items ids.maps.items ids.progs.items c.args.last c.args.reply.now _ h (omega (arith, one, c.moment_count.ensures)) refl).progs_ascend

pub keep_only-requires-clause-listed : goal.keep_only-requires-clause-listed
keep_only-requires-clause-listed g c κs within =
    let line = c.args.line.now in
    let ids = c.args.ids.now in
    let h = c.requires.made in
    let n : ℕ = c.moment_count.result - 1 in
    let one : 1 ≤ length line.pasts.moments = some_moment line (lasts_of ids.base ids.lasts.items) ids.maps.items ids.progs.items c.args.last c.args.reply.now h in
    let maps = c.add-2.ensures.maps ∙ ap (λ ms. ms ++ option_to_list (id_told c.args.reply.now)) c.give_up.ensures.maps in
    let progs = c.add-2.ensures.progs ∙ ap (λ ms. ms ++ option_to_list (prog_told c.args.reply.now)) c.give_up.ensures.progs in
    subst (λ (x : List ℕ × List ℕ). ListsPasts x.0 x.1 line.pasts) (λ i. (sym maps i, sym progs i))
    (has_listed _ line.pasts _ _ _ (noted_less ids.base line n ids.lasts.items ids.maps.items ids.progs.items c.args.last c.args.reply.now _ h (omega (arith, one, c.moment_count.ensures)) refl))

pub returns-clause-boxes : goal.returns-clause-boxes
returns-clause-boxes g c =
    let line = c.args.line.now in
    let ids = c.args.ids.now in
    let h = c.requires.made in
    let n : ℕ = c.moment_count.result - 1 in
    let one : 1 ≤ length line.pasts.moments = some_moment line (lasts_of ids.base ids.lasts.items) ids.maps.items ids.progs.items c.args.last c.args.reply.now h in
    let maps = c.add-2.ensures.maps ∙ ap (λ ms. ms ++ option_to_list (id_told c.args.reply.now)) c.give_up.ensures.maps in
    let progs = c.add-2.ensures.progs ∙ ap (λ ms. ms ++ option_to_list (prog_told c.args.reply.now)) c.give_up.ensures.progs in
    let lasts = c.add-2.ensures.lasts ∙ ap (λ ls. ls ++ c.args.last ∷ []) c.give_up.ensures.lasts in
    let base = c.add-2.ensures.base ∙ c.give_up.ensures.base in
    let u = c.keep_only.ensures in
    let kept_maps = u.maps ∙ maps in
    let kept_progs = u.progs ∙ progs in
    subst (λ (x : Pasts × (LastIds × (List LastIds × (List ℕ × List ℕ)))). KeepsBoxes c.keep_only.new.line.makes (states_of x.0) (lasts_of x.1.0 x.1.1.0) x.1.1.1.0 x.1.1.1.1) (λ i. (sym u.pasts i, (sym base i, (sym lasts i, (sym kept_maps i, sym kept_progs i)))))
    (noted_less ids.base line n ids.lasts.items ids.maps.items ids.progs.items c.args.last c.args.reply.now c.keep_only.new.line.makes h (omega (arith, one, c.moment_count.ensures))
    (u.boxes ∙ ap (λ ms. map.retain_keys line.makes (is_among ms)) maps))

pub returns-clause-lasts : goal.returns-clause-lasts
returns-clause-lasts g c =
    let ids = c.args.ids.now in
    let n : ℕ = c.moment_count.result - 1 in
    let lasts = c.add-2.ensures.lasts ∙ ap (λ ls. ls ++ c.args.last ∷ []) c.give_up.ensures.lasts in
    subst (λ (x : LastIds × List LastIds). Each (IsUpTo c.args.last) (lasts_of x.0 x.1)) (λ i. (sym (c.add-2.ensures.base ∙ c.give_up.ensures.base) i, sym lasts i)) (noted_lasts ids.base ids.lasts.items n c.args.last c.requires.made.rises)
