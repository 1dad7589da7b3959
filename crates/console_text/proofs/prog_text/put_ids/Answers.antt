use Rattle.std.proofs.Common.{◌≡◌, ◌∷◌, []}
use Rattle.std.specs.Prelude.{codes, decimal}
use Rattle.std.specs.List.{flat_map, concat}
use Rattle.console_text.specs.Text.{next_id_text}
use Rattle.console_text.proofs.Writing.{Writes-then, WritesFront-more}
use Rattle.console_text.proofs.prog_text.put_ids.Goals as goal

pub returns-in-Ok-clause-text : goal.returns-in-Ok-clause-text
returns-in-Ok-clause-text g c =
    let cut : c.args.ids.now ≡ c.in-Some.first.now ∷ c.in-Some.rest.now = c.in-Some.ensures.cases.0 in
    rw cut (Writes-then _ _ _ (concat (codes " map_ids " ∷ decimal c.in-Some.first.now ∷ [])) (flat_map next_id_text c.in-Some.rest.now) c.put_next_ids.result c.in-Ok.ensures.text c.put_next_ids.ensures.text)

pub returns-in-Err-clause-text : goal.returns-in-Err-clause-text
returns-in-Err-clause-text g c =
    let cut : c.args.ids.now ≡ c.in-Some.first.now ∷ c.in-Some.rest.now = c.in-Some.ensures.cases.0 in
    rw cut (WritesFront-more _ _ (concat (codes " map_ids " ∷ decimal c.in-Some.first.now ∷ [])) (flat_map next_id_text c.in-Some.rest.now) c.in-Err.ensures.text)
