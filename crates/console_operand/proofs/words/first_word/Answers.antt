use Rattle.std.proofs.Common.{arith, sym, ◌∙◌, ◌≡◌, ◌<◌, ℕ, ap, length, get_or, false, get_or-drop, add-zero, List}
use Rattle.console_operand.specs.Word.{is_space, words}
use Rattle.console_operand.proofs.Cuts.{words_first, words_none}
use Rattle.console_operand.proofs.words.first_word.Goals as goal

pub returns-then-end-eq0-clause-words : goal.returns-then-end-eq0-clause-words
returns-then-end-eq0-clause-words c =
    let t : List ℕ = c.split_at.result.1.now in
    let back = c.split_at.ensures.back in
    let no_space : 0 < length t → is_space (get_or t 0 0) ≡ false = λ some. rw (back, get_or-drop, add-zero) (c.spaces-front.ensures.stops (omega arith)) in
    let none = words_none t c.word_len-end.result c.if-end-eq0.true no_space c.word_len-end.ensures.stops in
    sym (ap words back ∙ c.spaces-front.ensures.skipped) ∙ none

pub returns-clause-words : goal.returns-clause-words
returns-clause-words c =
    let t : List ℕ = c.split_at.result.1.now in
    let first = words_first t c.word_len-end.result (omega arith) c.word_len-end.ensures.bound c.word_len-end.ensures.inside c.word_len-end.ensures.stops in
    let whole : words c.args.line.now ≡ words t = sym (ap words c.split_at.ensures.back ∙ c.spaces-front.ensures.skipped) in
    rw (c.split_at-2.ensures.front, c.split_at-2.ensures.back) (whole ∙ first)
