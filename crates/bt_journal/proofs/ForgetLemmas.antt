-- The past before a mark is given up.
use Rattle.std.proofs.Common.{◌≡◌, List, length, take, reverse, None, refl, ◌∙◌, ap, subst}
use Rattle.std.proofs.lemmas.List.{reverse-reverse, take_at}
use Rattle.journal_model.specs.Replay.{Entry}
use Rattle.journal_model.specs.Plain.{Past, Pasts, newest_force}
use Rattle.journal_model.specs.Rebase.{first_taken_from}
use Rattle.journal_model.specs.Well.{Each, EachFollows, all_moments}
use Rattle.journal_model.proofs.Lists.{Each-map, Each-reverse}
use Rattle.journal_invariant.proofs.Following.{Spares, spares, BeginsWith, all_behind}
use Rattle.journal_keeping.specs.Rebased.{AllBegin}

-- ---- the lists in force of later moments
-- each later list begins with the changes of the mark, if none of these was taken out since
pub all_begin : (p : Pasts) → EachFollows (all_moments p) → first_taken_from (newest_force p.moments) p.undone ≡ None → AllBegin (newest_force p.moments) p.undone
all_begin p follow none =
    let force : List Entry = newest_force p.moments in
    let spared : Each (Spares force) (reverse p.undone) = Each-reverse (Spares force) p.undone (spares force p.undone none) in
    let begin : Each (λ (m : Past). BeginsWith force m.force) (reverse p.undone) = (all_behind p.base force (reverse p.undone) p.moments refl follow spared).each_begins in
    Each-map (λ (m : Past). BeginsWith force m.force) (λ (m : Past). take (length force) m.force ≡ force) p.undone
    (λ m b. ap (take (length force)) b.is ∙ take_at force b.more (length force) refl)
    (subst (Each (λ (m : Past). BeginsWith force m.force)) (reverse-reverse p.undone) (Each-reverse (λ (m : Past). BeginsWith force m.force) (reverse p.undone) begin))
