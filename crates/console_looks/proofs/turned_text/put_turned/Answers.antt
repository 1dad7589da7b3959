use Rattle.std.proofs.Common.{◌≡◌, ◌-◌, length, subst, arith}
use Rattle.console_text.proofs.Writing.{Writes-then, WritesFront-more}
use Rattle.console_text.specs.Written.{Writes}
use Rattle.console_looks.specs.TurnedText.{head_text, told_text}
use Rattle.console_looks.proofs.turned_text.put_turned.Goals as goal

pub returns-in-Ok-clause-text : goal.returns-in-Ok-clause-text
returns-in-Ok-clause-text g c =
    let it = c.args.it.now in
    let rows : c.as_slice-rows.result.now ≡ it.rows.items = c.as_slice-rows.ensures.value in
    let more : c.saturating_sub-more.result ≡ it.count - length it.rows.items = rw (← rows) (omega (arith, c.saturating_sub-more.ensures)) in
    Writes-then _ _ _ (head_text c.args.did.now it.count) (told_text it.rows.items (it.count - length it.rows.items)) c.put_told.result c.in-Ok.ensures.text
    (subst (λ n. Writes (g.W.Output.contents c.put_head.new.out) (g.W.Output.contents c.put_told.new.out) c.put_told.result (told_text it.rows.items n)) more (rw rows at c.put_told.ensures.text))

pub returns-in-Err-clause-text : goal.returns-in-Err-clause-text
returns-in-Err-clause-text g c =
    let it = c.args.it.now in
    WritesFront-more _ _ (head_text c.args.did.now it.count) (told_text it.rows.items (it.count - length it.rows.items)) c.in-Err.ensures.text
