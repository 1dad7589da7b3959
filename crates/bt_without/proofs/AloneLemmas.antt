-- A change that is taken out alone.
use Rattle.std.proofs.Common.{◌≡◌, ℕ, true, false, List, ◌∷◌, ◌++◌, sym, ◌∙◌, ap, subst}
use Rattle.std.proofs.lemmas.List.{append-nil}
use Rattle.journal_model.specs.Replay.{Entry}
use Rattle.journal_model.specs.Plain.{newest_force}
use Rattle.journal_model.specs.Book.{PlainBook}
use Rattle.journal_model.specs.Well.{IsInOrder}
use Rattle.journal_model.specs.Force.{without}
use Rattle.journal_model.proofs.Others.{others_are}
use Rattle.bt_journal.specs.Alone.{is_alone}
use Rattle.bt_journal.specs.Staged.{Staged, TakesOutAlone}
use Rattle.bt_journal.specs.Taking.{BookStage}

-- the stage begins with the changes in force
alone_same : (b : PlainBook) (serial : ℕ) (stage : BookStage) → stage.staged.serial ≡ serial → stage.staged.line.pasts ≡ b.line → stage.staged.in_place ≡ newest_force b.line.moments
    → is_alone serial b.line.base (newest_force b.line.moments) ≡ is_alone stage.staged.serial stage.staged.line.pasts.base stage.staged.in_place
alone_same b serial stage s p f = sym (λ i. is_alone (s i) (p i).base (f i))

pub not_alone : (b : PlainBook) (serial : ℕ) (stage : BookStage) → stage.staged.serial ≡ serial → stage.staged.line.pasts ≡ b.line → stage.staged.in_place ≡ newest_force b.line.moments
    → is_alone stage.staged.serial stage.staged.line.pasts.base stage.staged.in_place ≡ false → is_alone serial b.line.base (newest_force b.line.moments) ≡ false
not_alone b serial stage s p f h = alone_same b serial stage s p f ∙ h

pub alone_begins : (b : PlainBook) (serial : ℕ) (stage : BookStage) → stage.staged.serial ≡ serial → stage.staged.line.pasts ≡ b.line → stage.staged.in_place ≡ newest_force b.line.moments
    → is_alone stage.staged.serial stage.staged.line.pasts.base stage.staged.in_place ≡ true → is_alone serial b.line.base (newest_force b.line.moments) ≡ true
alone_begins b serial stage s p f h = alone_same b serial stage s p f ∙ h

-- what is left in place are the others
pub alone_left : (last serial : ℕ) (old new : Staged) (force : List Entry) → TakesOutAlone old new → old.serial ≡ serial → old.in_place ≡ force → IsInOrder last force → new.in_place ++ new.left ≡ without serial force
alone_left last serial old new force t s f order =
    let whole : force ≡ t.one.0 ++ t.one.1 ∷ t.one.2 = sym f ∙ t.one.3 in
    (λ i. t.one.5 i ++ t.left i)
    ∙ append-nil (t.one.0 ++ t.one.2)
    ∙ sym (ap (without serial) whole ∙ others_are last serial t.one.0 t.one.1 t.one.2 (t.one.4 ∙ s) (subst (IsInOrder last) whole order))
