use Rattle.std.proofs.Common.{◌≡◌, ℕ, suc, ◌+◌, ◌==◌, not, Bool, List, ◌++◌, filter, take, drop, Result, Ok, Err, sym, ◌∙◌, ap, subst, arith}
use Rattle.std.proofs.lemmas.List.Sorted.{searched}
use Rattle.bt_objects.specs.Ids.{Ascends}
use Rattle.journal_record.specs.Listed.{Rises}
use Rattle.journal_record.proofs.AscendLemmas.{Searched, ascends, Rises-less, filter-less, found_there, found_nowhere}
use Rattle.journal_record.proofs.retired.take_out.Goals as goal

pub loop-place-preserved : goal.loop-place-preserved
loop-place-preserved c =
    let ids : List ℕ = c.loop-place.ids.items in
    let at : ℕ = c.in-Ok.place in
    let p : ℕ → Bool = λ other. not (other == c.args.id) in
    let next : at + 1 ≡ suc at = omega arith in
    let is : c.remove.new.self.items ≡ take at ids ++ drop (suc at) ids = c.remove.ensures.by_index.2 ∙ ap (λ n. take at ids ++ drop n ids) next in
    let all : Searched c.deref.result.now c.args.id c.binary_search.result =
    searched c.deref.result.now c.args.id c.binary_search.result c.binary_search.ensures.position (subst Ascends (sym c.deref.ensures.value) (ascends ids c.loop-place.invariant.rises)) in
    let found : Searched ids c.args.id (Ok at) = subst (λ (x : List ℕ × Result ℕ ℕ). Searched x.0 c.args.id x.1) (λ i. (c.deref.ensures.value i, c.in-Ok.is i)) all in
    record {
      rises = subst Rises (sym is) (Rises-less at ids c.loop-place.invariant.rises);
      left = ap (filter p) is ∙ filter-less p at ids found.0 (found_there ids c.args.id at found) ∙ c.loop-place.invariant.left;
    }

pub returns : goal.returns
returns c =
    let ids : List ℕ = c.loop-place.ids.items in
    let at : ℕ = c.in_default.field-0 in
    let all : Searched c.deref.result.now c.args.id c.binary_search.result =
    searched c.deref.result.now c.args.id c.binary_search.result c.binary_search.ensures.position (subst Ascends (sym c.deref.ensures.value) (ascends ids c.loop-place.invariant.rises)) in
    let found : Searched ids c.args.id (Err at) = subst (λ (x : List ℕ × Result ℕ ℕ). Searched x.0 c.args.id x.1) (λ i. (c.deref.ensures.value i, c.in_default.is i)) all in
    sym (found_nowhere ids c.args.id at found) ∙ c.loop-place.invariant.left
