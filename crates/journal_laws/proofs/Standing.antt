-- Where a change stands among those in force, or that it stands nowhere.
use Rattle.std.proofs.Common.{◌≡◌, ℕ, ◌==◌, ◌||◌, Bool, true, false, List, [], ◌∷◌, refl, sym, ◌∙◌, ap, eq-eqb}
use Rattle.std.proofs.lemmas.Bool.{eqb-true}
use Rattle.journal_model.specs.Replay.{Entry}
use Rattle.journal_model.specs.Force.{is_in_force}
use Rattle.journal_laws.specs.Headline.{StandsAmong, StandsNowhere}

pub stands : (serial : ℕ) (es : List Entry) → is_in_force serial es ≡ true → StandsAmong serial es
stands serial [] h = cc
stands serial (e ∷ es) h = here (e.serial == serial) refl h (stands serial es)
  where
    here : (b : Bool) → (e.serial == serial) ≡ b → (b || is_in_force serial es) ≡ true → (is_in_force serial es ≡ true → StandsAmong serial es) → StandsAmong serial (e ∷ es)
    here true is f more = record { before = []; one = e; after = es; whole = refl; its = eqb-true e.serial serial is }
    here false is f more =
        let rest : StandsAmong serial es = more f in
        record { before = e ∷ rest.before; one = rest.one; after = rest.after; whole = ap (λ xs. e ∷ xs) rest.whole; its = rest.its }

pub nowhere : (serial : ℕ) (es : List Entry) → is_in_force serial es ≡ false → StandsNowhere serial es
nowhere serial [] h = tt
nowhere serial (e ∷ es) h = here (e.serial == serial) refl h (nowhere serial es)
  where
    here : (b : Bool) → (e.serial == serial) ≡ b → (b || is_in_force serial es) ≡ false → (is_in_force serial es ≡ false → StandsNowhere serial es) → StandsNowhere serial (e ∷ es)
    here true is f more = cc
    here false is f more = ((λ same. cc (sym is ∙ eq-eqb e.serial serial same)), more f)
