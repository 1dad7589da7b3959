use Rattle.std.proofs.Common.{◌≡◌, ◌∷◌}
use Rattle.std.specs.List.{flat_map}
use Rattle.console_text.specs.Text.{hex_of, spaced_hex_of}
use Rattle.console_text.proofs.Writing.{Writes-then, WritesFront-more}
use Rattle.console_text.proofs.piece.put_bytes.Goals as goal

pub returns-in-Ok-clause-text : goal.returns-in-Ok-clause-text
returns-in-Ok-clause-text g c =
    let cut : c.args.bytes.now ≡ c.in-Some.first.now ∷ c.in-Some.rest.now = c.in-Some.ensures.cases.0 in
    rw cut (Writes-then _ _ _ (hex_of c.in-Some.first.now) (flat_map spaced_hex_of c.in-Some.rest.now) c.put_spaced.result (rw (← c.hex-digits.ensures) c.in-Ok.ensures.text) c.put_spaced.ensures.text)

pub returns-in-Err-clause-text : goal.returns-in-Err-clause-text
returns-in-Err-clause-text g c =
    let cut : c.args.bytes.now ≡ c.in-Some.first.now ∷ c.in-Some.rest.now = c.in-Some.ensures.cases.0 in
    rw cut (WritesFront-more _ _ (hex_of c.in-Some.first.now) (flat_map spaced_hex_of c.in-Some.rest.now) (rw (← c.hex-digits.ensures) c.in-Err.ensures.text))
