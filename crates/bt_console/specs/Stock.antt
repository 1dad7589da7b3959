-- A stock of boxes that were made beforehand, which are given one after another.
use Rattle.std.specs.Prelude.{◌≡◌, List, [], ◌∷◌, Result, Ok, Err}
use Rattle.bt_console.specs.declared.supply.NoBox.{NoBox}
use Rattle.bt_console.specs.declared.supply.NoBox.TheVariants.{AtEnd}

-- the first one is given, or the stock is at its end
abbrev pub TakesFirst : {K : Type 0} → List K → Result K NoBox → List K → Type 0
TakesFirst [] told left = (told ≡ Err AtEnd) × (left ≡ [])
TakesFirst (box ∷ boxes) told left = (told ≡ Ok box) × (left ≡ boxes)
