use Rattle.std.proofs.Common.{◌≡◌, ◌<◌, ◌≤◌, ℕ, List, true, false, sym, ◌∙◌, ap, length, take, drop, get_or, get_or-drop, add-zero, arith}
use Rattle.std.specs.Str.{bytes_eq}
use Rattle.std.proofs.lemmas.Slice.Eq.{bytes_eq-Decides}
use Rattle.console_operand.specs.Word.{is_space, ends_here, words}
use Rattle.console_operand.proofs.Cuts.{stands, stands_first}
use Rattle.console_operand.proofs.words.behind_word.Goals as goal

pub returns-then-not-starts_with : goal.returns-then-not-starts_with
returns-then-not-starts_with c = λ rest h.
    let text : List ℕ = c.split_at.result.1.now in
    let word : List ℕ = c.args.word.now in
    let back = c.split_at.ensures.back in
    let no_space : 0 < length text → is_space (get_or text 0 0) ≡ false = λ some. rw (back, get_or-drop, add-zero) (c.spaces-front.ensures.stops (omega arith)) in
    let it = stands text word rest no_space (ap words back ∙ c.spaces-front.ensures.skipped ∙ h) in
    let front : bytes_eq word (take (length word) text) ≡ true = (bytes_eq-Decides word (take (length word) text)).1 (sym it.front) in
    let value : c.starts_with.result ≡ bytes_eq word (take (length word) text) = c.starts_with.ensures.value in
    let other = c.if-not-starts_with.true in
    cc

pub returns-then-ends_here : goal.returns-then-ends_here
returns-then-ends_here c =
    let text : List ℕ = c.split_at.result.1.now in
    let word : List ℕ = c.args.word.now in
    let value : bytes_eq word (take (length word) text) ≡ true = sym c.starts_with.ensures.value ∙ c.if-not-starts_with.false in
    let front : take (length word) text ≡ word = sym ((bytes_eq-Decides word (take (length word) text)).0 value) in
    let ends : ends_here (drop (length word) text) ≡ true = ap ends_here (sym c.split_at-2.ensures.back) ∙ sym c.ends_here.ensures ∙ c.if-ends_here.true in
    let fits : length word ≤ length text = c.starts_with.ensures.bound c.if-not-starts_with.false in
    rw c.split_at-2.ensures.back
    (sym (ap words c.split_at.ensures.back ∙ c.spaces-front.ensures.skipped)
    ∙ stands_first text word c.requires.some c.requires.letters fits (record { front = front; behind = ends }))

pub returns-else-ends_here : goal.returns-else-ends_here
returns-else-ends_here c = λ rest h.
    let text : List ℕ = c.split_at.result.1.now in
    let back = c.split_at.ensures.back in
    let no_space : 0 < length text → is_space (get_or text 0 0) ≡ false = λ some. rw (back, get_or-drop, add-zero) (c.spaces-front.ensures.stops (omega arith)) in
    let it = stands text c.args.word.now rest no_space (ap words back ∙ c.spaces-front.ensures.skipped ∙ h) in
    let ends : ends_here c.split_at-2.result.1.now ≡ true = ap ends_here c.split_at-2.ensures.back ∙ it.behind in
    let no_end = c.if-ends_here.false in
    let same = c.ends_here.ensures in
    cc
