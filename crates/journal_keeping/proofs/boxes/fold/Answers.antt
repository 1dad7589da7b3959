use Rattle.std.proofs.Common.{◌≡◌, ℕ, ◌≤◌, List, length, sym, ◌∙◌, subst, arith}
use Rattle.bt_objects.specs.declared.make.Make.{Make}
use Rattle.bt_objects.specs.ById.{ById}
use Rattle.journal_model.specs.Plain.{Pasts, now, cut}
use Rattle.journal_model.specs.Rebase.{advanced}
use Rattle.journal_model.specs.Well.{Each}
use Rattle.journal_timeline.specs.Retired.{NoneRetired}
use Rattle.journal_keeping.specs.Boxes.{KeepsBoxes, IsUpTo, states_of, lasts_of}
use Rattle.journal_keeping.specs.declared.ids.LastIds.{LastIds}
use Rattle.journal_keeping.proofs.BoxesLemmas.{base_lives}
use Rattle.journal_keeping.proofs.RebaseLemmas.{enough_lasts, lasts_rebased}
use Rattle.journal_keeping.proofs.FoldLemmas.{folded_pasts, keeps_folded}
use Rattle.journal_keeping.proofs.boxes.fold.Goals as goal

pub retires_none-requires-clause-lives : goal.retires_none-requires-clause-lives
retires_none-requires-clause-lives g c κs bounds =
    let ids = c.args.ids.now in
    base_lives c.args.line.now.makes c.args.line.now.pasts (lasts_of ids.base ids.lasts.items) ids.maps.items ids.progs.items c.requires.boxes

pub advance-requires : goal.advance-requires
advance-requires g c =
    let p : Pasts = c.args.line.now.pasts in
    let ids = c.args.ids.now in
    omega (arith, c.requires.within, ids.lasts.ok.0, enough_lasts c.args.line.now.makes ids.maps.items ids.progs.items p ids.base ids.lasts.items c.requires.boxes)

pub returns-then-retires_none-clause-boxes : goal.returns-then-retires_none-clause-boxes
returns-then-retires_none-clause-boxes g c =
    let p : Pasts = c.args.line.now.pasts in
    let ids = c.args.ids.now in
    let makes : ById Make = c.args.line.now.makes in
    let none : NoneRetired (now (cut 1 p)) = c.retires_none.ensures.none.0 c.if-retires_none.true in
    let few : 1 ≤ length ids.lasts.items = omega (arith, c.requires.within, enough_lasts makes ids.maps.items ids.progs.items p ids.base ids.lasts.items c.requires.boxes) in
    let pasts : c.advance-then-retires_none.new.self.pasts ≡ advanced 1 p = c.advance-then-retires_none.ensures.pasts ∙ folded_pasts 1 p none in
    let u = c.advance.ensures in
    subst (λ (x : ById Make × (Pasts × (LastIds × (List LastIds × (List ℕ × List ℕ))))). KeepsBoxes x.0 (states_of x.1.0) (lasts_of x.1.1.0 x.1.1.1.0) x.1.1.1.1.0 x.1.1.1.1.1)
    (λ i. (sym c.advance-then-retires_none.ensures.boxes i, (sym pasts i, (sym u.base i, (sym u.lasts i, (sym u.maps i, sym u.progs i))))))
    (keeps_folded makes ids.maps.items ids.progs.items p ids.base c.requires.within none c.retires_none.ensures.stay ids.lasts.items few c.requires.boxes)

pub returns-then-retires_none-clause-pasts : goal.returns-then-retires_none-clause-pasts
returns-then-retires_none-clause-pasts g c = c.advance-then-retires_none.ensures.pasts ∙ folded_pasts 1 c.args.line.now.pasts (c.retires_none.ensures.none.0 c.if-retires_none.true)

pub returns-then-retires_none-clause-lasts : goal.returns-then-retires_none-clause-lasts
returns-then-retires_none-clause-lasts g c = λ last h.
    let ids = c.args.ids.now in
    subst (λ (x : LastIds × List LastIds). Each (IsUpTo last) (lasts_of x.0 x.1)) (λ i. (sym c.advance.ensures.base i, sym c.advance.ensures.lasts i)) (lasts_rebased last ids.base ids.lasts.items 1 h)
