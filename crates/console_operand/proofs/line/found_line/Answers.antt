use Rattle.std.proofs.Common.{◌≡◌, ◌<◌, ℕ, arith, length, drop, suc}
use Rattle.std.proofs.Math.Seq.{drop-cons, take-length, drop-length}
use Rattle.console_operand.proofs.LineCuts.{line_cut, lines_last}
use Rattle.console_operand.proofs.line.found_line.Goals as goal

pub returns-in-Some-clause-lines : goal.returns-in-Some-clause-lines
returns-in-Some-clause-lines c =
    let end : ℕ = c.line_len-end.result in
    let below : end < length c.args.text.now = omega (arith, c.in-Some.ensures.cases.1, c.split_at.ensures.back_len) in
    let there = drop-cons c.args.text.now end 0 below in
    let back = c.split_at.ensures.back in
    let parts = c.in-Some.ensures.cases.0 in
    let same : c.in-Some.rest.now ≡ drop (suc end) c.args.text.now = cc in
    rw (c.without_cr.ensures, c.split_at.ensures.front, same) (line_cut c.args.text.now end below c.line_len-end.ensures.inside (c.line_len-end.ensures.stops below))

pub returns-in-None-clause-lines : goal.returns-in-None-clause-lines
returns-in-None-clause-lines c =
    let all : c.line_len-end.result ≡ length c.args.text.now = omega (arith, c.in-None.ensures.cases, c.split_at.ensures.back_len) in
    rw (c.split_at.ensures.front, c.split_at.ensures.back, all, take-length, drop-length)
    (lines_last c.args.text.now c.requires (λ k h. c.line_len-end.ensures.inside k (omega arith)))
