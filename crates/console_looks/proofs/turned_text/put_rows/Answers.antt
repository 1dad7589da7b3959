use Rattle.std.proofs.Common.{◌≡◌, ◌∷◌, ◌++◌}
use Rattle.std.specs.Prelude.{codes}
use Rattle.std.specs.List.{flat_map}
use Rattle.console_text.proofs.Writing.{Writes-then, WritesFront-more}
use Rattle.console_looks.specs.TurnedText.{row_text, next_text}
use Rattle.console_looks.proofs.turned_text.put_rows.Goals as goal

pub returns-in-Ok-clause-text : goal.returns-in-Ok-clause-text
returns-in-Ok-clause-text g c =
    let cut : c.args.rows.now ≡ c.in-Some.first.now ∷ c.in-Some.rest.now = c.in-Some.ensures.cases.0 in
    rw cut (Writes-then _ _ _ (codes ": " ++ row_text c.in-Some.first.now) (flat_map next_text c.in-Some.rest.now) c.put_others.result c.in-Ok.ensures.text c.put_others.ensures.text)

pub returns-in-Err-clause-text : goal.returns-in-Err-clause-text
returns-in-Err-clause-text g c =
    let cut : c.args.rows.now ≡ c.in-Some.first.now ∷ c.in-Some.rest.now = c.in-Some.ensures.cases.0 in
    rw cut (WritesFront-more _ _ (codes ": " ++ row_text c.in-Some.first.now) (flat_map next_text c.in-Some.rest.now) c.in-Err.ensures.text)
