use Rattle.std.proofs.Common.{◌≡◌, ◌+◌, ◌≤◌, ◌++◌, ◌∷◌, [], ◌∙◌, ℕ, List, None, sym, ap, subst, nat_eq}
use Rattle.std.specs.Cmp.Lexicographic.{pointwise}
use Rattle.std.specs.Map.{lookup}
use Rattle.indexmap.proofs.CallerLemmas.{insert_entry-new}
use Rattle.journal_model.specs.Marks.{Mark, moments_at, without_name}
use Rattle.journal_model.specs.Well.{Each}
use Rattle.journal_model.proofs.Lists.{EachPair-push}
use Rattle.journal_keeping.specs.MarksView.{MarksView}
use Rattle.journal_keeping.proofs.MarkLemmas.{Entries, Ascends, standing, forgotten, stands_at, found, others, removed_none, removed_standing, removed_forgotten, others_ascend, others_below, all_below, added_standing, added_forgotten}
use Rattle.journal_keeping.proofs.marks.Marks.insert.Goals as goal

pub invariant_of-self-2 : goal.invariant_of-self-2
invariant_of-self-2 c =
    let m = c.self.inside in
    let name : List ℕ = c.args.name in
    let es : Entries = m.by_name.entries in
    let unchanged : c.reserve.new.self.entries ≡ es = c.in_ok-reserve.ensures.entries in
    let left : c.shift_remove.new.self.entries ≡ others name es = c.shift_remove.ensures.entries ∙ ap (others name) unchanged in
    let none : lookup (pointwise nat_eq name) c.shift_remove.new.self.entries ≡ None = ap (lookup (pointwise nat_eq name)) left ∙ removed_none name es c.self.invariant.0 in
    let new : c.insert.new.self.entries ≡ others name es ++ (name, m.gone + c.args.moments) ∷ [] =
    c.in-Ok.ensures.entries ∙ insert_entry-new (pointwise nat_eq) c.shift_remove.new.self name (m.gone + c.args.moments) none ∙ ap (λ xs. xs ++ (name, m.gone + c.args.moments) ∷ []) left in
    let low : Each (λ (x : Mark). x.moments ≤ c.args.moments) (standing m.gone es) = subst (λ (v : MarksView). Each (λ (x : Mark). x.moments ≤ c.args.moments) v.standing) (sym c.self.view_is) c.requires.last in (
      c.insert.ensures.unique,
      subst Ascends (sym new)
          (EachPair-push (λ (earlier later : List ℕ × ℕ). earlier.1 ≤ later.1) (others name es) (name, m.gone + c.args.moments) (others_ascend name es c.self.invariant.1)
          (others_below name (m.gone + c.args.moments) es (all_below m.gone c.args.moments es low))),
    )

pub returns-clause-standing : goal.returns-clause-standing
returns-clause-standing c =
    let m = c.self.inside in
    let name : List ℕ = c.args.name in
    let es : Entries = m.by_name.entries in
    let left : c.shift_remove.new.self.entries ≡ others name es = c.shift_remove.ensures.entries ∙ ap (others name) c.in_ok-reserve.ensures.entries in
    let none : lookup (pointwise nat_eq name) c.shift_remove.new.self.entries ≡ None = ap (lookup (pointwise nat_eq name)) left ∙ removed_none name es c.self.invariant.0 in
    let new : c.insert.new.self.entries ≡ others name es ++ (name, m.gone + c.args.moments) ∷ [] =
    c.in-Ok.ensures.entries ∙ insert_entry-new (pointwise nat_eq) c.shift_remove.new.self name (m.gone + c.args.moments) none ∙ ap (λ xs. xs ++ (name, m.gone + c.args.moments) ∷ []) left in
    let free : stands_at m.gone (lookup (pointwise nat_eq name) es) ≡ None = sym (found m.gone name es c.self.invariant.0) ∙ ap (λ (v : MarksView). moments_at name v.standing) c.self.view_is ∙ c.requires.none in
    ap (standing m.gone) new ∙ added_standing m.gone (others name es) name c.args.moments
    ∙ ap (λ ms. ms ++ record { name = name; moments = c.args.moments } ∷ []) (removed_standing name m.gone es free ∙ ap (λ (v : MarksView). v.standing) c.self.view_is)

pub returns-clause-forgotten : goal.returns-clause-forgotten
returns-clause-forgotten c =
    let m = c.self.inside in
    let name : List ℕ = c.args.name in
    let es : Entries = m.by_name.entries in
    let left : c.shift_remove.new.self.entries ≡ others name es = c.shift_remove.ensures.entries ∙ ap (others name) c.in_ok-reserve.ensures.entries in
    let none : lookup (pointwise nat_eq name) c.shift_remove.new.self.entries ≡ None = ap (lookup (pointwise nat_eq name)) left ∙ removed_none name es c.self.invariant.0 in
    let new : c.insert.new.self.entries ≡ others name es ++ (name, m.gone + c.args.moments) ∷ [] =
    c.in-Ok.ensures.entries ∙ insert_entry-new (pointwise nat_eq) c.shift_remove.new.self name (m.gone + c.args.moments) none ∙ ap (λ xs. xs ++ (name, m.gone + c.args.moments) ∷ []) left in
    ap (forgotten m.gone) new ∙ added_forgotten m.gone (others name es) name c.args.moments ∙ removed_forgotten name m.gone es c.self.invariant.0 ∙ ap (λ (v : MarksView). without_name name v.forgotten) c.self.view_is
