-- What a supplier of boxes does at the steps of a script: it is asked at their lines, in the order of the steps, and at no
-- other time.
use Rattle.std.specs.Prelude.{◌≡◌, ℕ, List, [], ◌∷◌, Option, Some, None, Result}
use Rattle.bt_mapkind.specs.declared.attr.MapAttr.{MapAttr}
use Rattle.bt_mapkind.specs.Seen.{Seen}
use Rattle.bt_syntax.specs.Needs.{need_of}
use Rattle.console_script.specs.NoBox.{NoBox}
use Rattle.console_script.specs.Supply.{LineIsSupplied}
use Rattle.console_script.specs.Transcript.{Step}

-- what a step needs: the end of a batch needs none
abbrev pub need_at : Option (List ℕ) → Option MapAttr
need_at None = None
need_at (Some line) = need_of line

abbrev pub StepIsSupplied : {S K : Type 0} → (S → MapAttr → Result K NoBox → S → Type 0) → (K → Seen) → S → Step → S → Type 0
StepIsSupplied gives seen from it to = LineIsSupplied gives seen from (need_at it.line) it.course it.blank to

-- it supplied these steps, one after the other
abbrev pub AreSupplied : {S K : Type 0} → (S → MapAttr → Result K NoBox → S → Type 0) → (K → Seen) → S → List Step → S → Type 0
AreSupplied gives seen from [] to = to ≡ from
AreSupplied {S} gives seen from (it ∷ run) to = (mid : S) × StepIsSupplied gives seen from it mid × AreSupplied gives seen mid run to
