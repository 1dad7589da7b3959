use Rattle.std.proofs.Common.{◌≡◌, ◌∷◌, List, Some, sym, ◌∙◌, ap}
use Rattle.std.specs.Vec.Iter.{into_iter_items}
use Rattle.std.specs.declared.alloc.Global.{Global}
use Rattle.std.specs.declared.string.String.{String}
use Rattle.console_input.specs.Options.{option_of, with_option, options_in}
use Rattle.console_input.proofs.OptionsRead.{option_taken}
use Rattle.console_input.proofs.options.take_options.Goals as goal

pub options-preserved : goal.options-preserved
options-preserved c =
    let given = c.options.options in
    let verb = c.options.verb in
    let value = c.in_ok-value.value in
    let next = c.in_ok-verb.verb in
    let words : List (String Global) = into_iter_items c.next-in-Some.new.self in
    let all : into_iter_items c.options.words ≡ value ∷ next ∷ words = c.in_ok-value.ensures.cases.0 ∙ ap (λ (behind : List (String Global)). value ∷ behind) c.in_ok-verb.ensures.cases.0 in
    let names : option_of verb ≡ Some c.in-Some.option = sym (rw c.as_str.ensures.value at c.of.ensures) ∙ c.in-Some.is in
    let sets : with_option given c.in-Some.option value ≡ Some c.in_ok-options.options = sym c.with.ensures ∙ c.in_ok-options.was in
    record { left = sym (option_taken given verb value next words c.in-Some.option c.in_ok-options.options names sets) ∙ sym (ap (options_in given verb) all) ∙ c.options.invariant.left }
