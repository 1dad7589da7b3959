use Rattle.std.proofs.Common.{◌≡◌, ◌∷◌, List, Some, sym, ◌∙◌, ap}
use Rattle.std.specs.Vec.Iter.{into_iter_items}
use Rattle.std.specs.declared.alloc.Global.{Global}
use Rattle.std.specs.declared.string.String.{String}
use Rattle.console_input.specs.Live.{option_of, with_option, live_behind}
use Rattle.console_input.proofs.LiveRead.{option_taken}
use Rattle.console_input.proofs.live.live_of.Goals as goal

pub options-preserved : goal.options-preserved
options-preserved c =
    let given = c.options.given in
    let word = c.in-Some.word in
    let next = c.in_ok-next.next in
    let words : List (String Global) = into_iter_items c.next-in-Some.new.self in
    let all : into_iter_items c.options.words ≡ word ∷ next ∷ words = c.in-Some.ensures.cases.0 ∙ ap (λ (behind : List (String Global)). word ∷ behind) c.in_ok-next.ensures.cases.0 in
    let names : option_of word ≡ Some c.in-Some-of.option = sym (rw c.as_str.ensures.value at c.of.ensures) ∙ c.in-Some-of.is in
    let sets : with_option given c.in-Some-of.option next ≡ Some c.in_ok-given-in-Some-of.given = sym c.with.ensures ∙ c.in_ok-given-in-Some-of.was in
    record { left = sym (option_taken given word next words c.in-Some-of.option c.in_ok-given-in-Some-of.given names sets) ∙ sym (ap (live_behind given) all) ∙ c.options.invariant.left }
