use Rattle.std.proofs.Common.{◌≡◌, ◌≢◌, ℕ, ◌+◌, List, [], true, cond, sym, ◌∙◌, ap, subst, Option, Some, None, Result, Ok, Err}
use Rattle.std.specs.Prelude.{◌==◌}
use Rattle.std.proofs.lemmas.Bool.{eq-eqb, ne_eqb}
use Rattle.console_operand.specs.Word.{words}
use Rattle.console_operand.specs.Automaton.{found_at, outcome, GoesOver}
use Rattle.bt_syntax.specs.Steps.{step, finish, told, words_read}
use Rattle.bt_syntax.specs.declared.command.Command.{Command}
use Rattle.bt_syntax.specs.declared.command.State.{State}
use Rattle.bt_syntax.specs.declared.command.State.TheVariants as s
use Rattle.console_operand.proofs.OverRead.{outcome_over}
use Rattle.bt_syntax.proofs.parse.read_from.Goals as goal

pub loop-word-preserved : goal.loop-word-preserved
loop-word-preserved c =
    let loop = c.loop-word in
    let goes : GoesOver step true loop.state c.in-Some.word.now c.next.new.self c.go_on.new.self c.go_on.new.unread =
    subst (λ b. GoesOver step b loop.state c.in-Some.word.now c.next.new.self c.go_on.new.self c.go_on.new.unread) c.if-not-branch.false c.in_ok-go_on.ensures.goes_on in
    record { left = sym (outcome_over step finish loop.state c.go_on.new.self c.in-Some.word.now loop.unread c.next.new.self c.go_on.new.unread c.in-Some.ensures goes) ∙ loop.invariant.left }

-- the line ends after the words that were read
at_end : (state : State) (k : ℕ) (left all : List (List ℕ)) (found : Result (Option Command) ℕ) → outcome step finish state k left ≡ outcome step finish s.Start 0 all → left ≡ [] →
    cond (k == 0) (Ok None) (found_at k (finish state)) ≡ found → told found ≡ words_read all
at_end state k left all found h none is = ap told (sym is ∙ sym (ap (outcome step finish state k) none) ∙ h)

pub returns-then-count-eq0 : goal.returns-then-count-eq0
returns-then-count-eq0 c =
    let loop = c.loop-word in
    let (none, stays) = c.in_default.ensures in
    let zero : loop.unread.count ≡ 0 = ap (λ u. u.count) (sym stays) ∙ sym c.count-2.ensures.count ∙ c.if-count-eq0.true in
    at_end loop.state loop.unread.count loop.unread.left (words c.args.line.now) (Ok None) loop.invariant.left none
    (ap (λ b. cond b (Ok None) (found_at loop.unread.count (finish loop.state))) (eq-eqb loop.unread.count 0 zero))

pub returns-in-Some-2 : goal.returns-in-Some-2
returns-in-Some-2 c =
    let loop = c.loop-word in
    let (none, stays) = c.in_default.ensures in
    let some : loop.unread.count ≢ 0 = λ zero. c.if-count-eq0.false (c.count-2.ensures.count ∙ ap (λ u. u.count) stays ∙ zero) in
    at_end loop.state loop.unread.count loop.unread.left (words c.args.line.now) (Ok (Some c.in-Some-2.command)) loop.invariant.left none
    (ap (λ b. cond b (Ok None) (found_at loop.unread.count (finish loop.state))) (ne_eqb loop.unread.count 0 some) ∙ ap (found_at loop.unread.count) (sym c.in_ok-command.ensures ∙ c.in-Some-2.is))

pub returns-in-None : goal.returns-in-None
returns-in-None c =
    let loop = c.loop-word in
    let (none, stays) = c.in_default.ensures in
    let some : loop.unread.count ≢ 0 = λ zero. c.if-count-eq0.false (c.count-2.ensures.count ∙ ap (λ u. u.count) stays ∙ zero) in
    let count : loop.unread.count ≡ c.count-in-None.result = ap (λ u. u.count) (sym stays) ∙ sym c.count-in-None.ensures.count in
    at_end loop.state loop.unread.count loop.unread.left (words c.args.line.now) (Err (c.count-in-None.result + 1)) loop.invariant.left none
    (ap (λ b. cond b (Ok None) (found_at loop.unread.count (finish loop.state))) (ne_eqb loop.unread.count 0 some)
    ∙ ap (found_at loop.unread.count) (sym c.in_ok-command.ensures ∙ c.in-None.is)
    ∙ ap (λ k. Err (k + 1)) count)
