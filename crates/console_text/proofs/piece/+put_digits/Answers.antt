use Rattle.std.proofs.Common.{◌-◌, ◌/◌, sym, subst, arith}
use Rattle.std.proofs.lemmas.Bool.Decides.{nat_tests}
use Rattle.console_text.specs.Text.{hexadecimal_within, low_digit}
use Rattle.console_text.specs.Written.{Writes, WritesFront}
use Rattle.console_text.proofs.Writing.{Writes-then, WritesFront-more}
use Rattle.console_text.proofs.Digits.{of_one_digit, of_more_digits}
use Rattle.console_text.proofs.piece.+put_digits.Goals as goal

pub returns-then-number-lt16-clause-text : goal.returns-then-number-lt16-clause-text
returns-then-number-lt16-clause-text g n c =
    subst (λ text. Writes (g.W.Output.contents c.args.out.now) (g.W.Output.contents c.put_low_digit.new.out) c.put_low_digit.result text)
    (sym (of_one_digit c.args.digits c.args.number (omega (arith, nat_tests, c.if-digits-eq0.false)) (omega (arith, nat_tests, c.if-number-lt16.true))))
    c.put_low_digit.ensures.text

pub returns-in-Ok-clause-text : goal.returns-in-Ok-clause-text
returns-in-Ok-clause-text g n c =
    subst (λ text. Writes (g.W.Output.contents c.args.out.now) (g.W.Output.contents c.put_low_digit-in-Ok.new.out) c.put_low_digit-in-Ok.result text)
    (sym (of_more_digits c.args.digits c.args.number (omega (arith, nat_tests, c.if-digits-eq0.false)) (omega (arith, nat_tests, c.if-number-lt16.false))))
    (Writes-then _ _ _ (hexadecimal_within (c.args.digits - 1) (c.args.number / 16)) (low_digit c.args.number) c.put_low_digit-in-Ok.result c.in-Ok.ensures.text c.put_low_digit-in-Ok.ensures.text)

pub returns-in-Err-clause-text : goal.returns-in-Err-clause-text
returns-in-Err-clause-text g n c =
    subst (λ text. WritesFront (g.W.Output.contents c.args.out.now) (g.W.Output.contents c.put_digits.new.out) text)
    (sym (of_more_digits c.args.digits c.args.number (omega (arith, nat_tests, c.if-digits-eq0.false)) (omega (arith, nat_tests, c.if-number-lt16.false))))
    (WritesFront-more _ _ (hexadecimal_within (c.args.digits - 1) (c.args.number / 16)) (low_digit c.args.number) c.in-Err.ensures.text)
