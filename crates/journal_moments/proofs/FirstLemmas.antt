-- The serials of the first change in force and of the oldest moment.
use Rattle.std.proofs.Common.{◌≡◌, ℕ, ◌<◌, List, [], ◌∷◌, ◌++◌, length, reverse, get_or, Option, Some, None, refl, sym, ◌∙◌, ap, arith}
use Rattle.std.proofs.lemmas.List.{reverse-append}
use Rattle.host_state.specs.State.{State}
use Rattle.journal_model.specs.Replay.{Entry}
use Rattle.journal_model.specs.Plain.{newest_force}
use Rattle.journal_model.specs.Window.{first_serial, oldest_serial, if_same, first_in_force}
use Rattle.journal_record.specs.Recorded.{Recorded}
use Rattle.journal_moments.specs.Line.{entries, other_force, pasts_down}
use Rattle.journal_moments.specs.Held.{Held, base_of, pasts_of, Sound}
use Rattle.journal_moments.specs.MomentView.{MomentView}
use Rattle.journal_moments.proofs.HeldLemmas.{pasts_is}
use Rattle.journal_moments.proofs.NewestLemmas.{force-pasts_of}

-- ---- the first change in force
first_of : (rs : List Recorded) (r : Recorded) → 0 < length rs → r ≡ get_or rs 0 r → first_serial (entries rs) ≡ Some r.entry.serial
first_of [] r some is = absurd (omega (arith, some))
first_of (x ∷ rs) r some is = ap (λ (y : Recorded). Some y.entry.serial) (sym is)

-- ---- the oldest moment
oldest_down : (base : State) (es : List Entry) (ms : List MomentView) (m : MomentView) → oldest_serial (pasts_down base es (ms ++ m ∷ [])) ≡ Some m.serial
oldest_down base es [] m = refl
oldest_down base es (x ∷ []) m = refl
oldest_down base es (x ∷ y ∷ ms) m = oldest_down base (other_force es x) (y ∷ ms) m

oldest_of : (a : Held) (m : MomentView) (rest : List MomentView) → a.moments ≡ m ∷ rest → oldest_serial (pasts_of a).moments ≡ Some m.serial
oldest_of a m rest is =
    ap (λ p. oldest_serial p.moments) (pasts_is a)
    ∙ ap (λ ms. oldest_serial (pasts_down (base_of a) (entries a.records) ms)) (ap reverse is ∙ reverse-append (m ∷ []) rest)
    ∙ oldest_down (base_of a) (entries a.records) (reverse rest) m

oldest_none : (a : Held) → a.moments ≡ [] → oldest_serial (pasts_of a).moments ≡ None
oldest_none a is = ap (λ p. oldest_serial p.moments) (pasts_is a) ∙ ap (λ ms. oldest_serial (pasts_down (base_of a) (entries a.records) (reverse ms))) is

-- ---- both
pub first_both : (a : Held) → Sound a → (r : Recorded) (m : MomentView) (rest : List MomentView) → 0 < length a.records → r ≡ get_or a.records 0 r → a.moments ≡ m ∷ rest → first_in_force (pasts_of a) ≡ if_same (Some r.entry.serial) (Some m.serial)
first_both a s r m rest some first moments =
    let change : first_serial (newest_force (pasts_of a).moments) ≡ Some r.entry.serial = ap first_serial (force-pasts_of a s) ∙ first_of a.records r some first in
    let oldest : oldest_serial (pasts_of a).moments ≡ Some m.serial = oldest_of a m rest moments in
    λ i. if_same (change i) (oldest i)

pub first_unmade : (a : Held) → a.moments ≡ [] → first_in_force (pasts_of a) ≡ None
first_unmade a moments = ap (if_same (first_serial (newest_force (pasts_of a).moments))) (oldest_none a moments) ∙ by (first_serial (newest_force (pasts_of a).moments))
  where
    by : (o : Option ℕ) → if_same o None ≡ None
    by None = refl
    by (Some serial) = refl

pub first_unchanged : (a : Held) → Sound a → a.records ≡ [] → first_in_force (pasts_of a) ≡ None
first_unchanged a s none = ap (λ es. if_same (first_serial es) (oldest_serial (pasts_of a).moments)) (force-pasts_of a s ∙ ap entries none)
