-- The laws of the table and of exchanges, for every type of map.
use Rattle.std.specs.Prelude.{◌≡◌, ◌≤◌, ℕ, true, false, List, Ok, All, Contains, MatchOption}
use Rattle.std.specs.FinMap.{entries}
use Rattle.bt_mapkind.specs.declared.attr.MapAttr.{MapAttr}
use Rattle.bt_mapkind.specs.declared.exchange.Back.{Back}
use Rattle.bt_mapkind.specs.declared.request.MapOp.{MapOp}
use Rattle.bt_mapkind.specs.Contents.{Contents, ByKey, fresh}
use Rattle.bt_mapkind.specs.Prefix.{prefix_length, is_prefix_of, longest_match}
use Rattle.bt_mapkind.specs.Exchange.{exchange_fits, exchanged}
use Rattle.bt_mapkind.specs.Step.{Changed, map_step}
use Rattle.bt_mapkind.specs.Well.{IsWell}

-- an exchange that is turned twice leaves what was there
abbrev pub TurnsBack : MapAttr → Contents → Back → Type 0
TurnsBack a c b = exchange_fits a c b ≡ true → exchanged (exchanged c b).0 (exchanged c b).1 ≡ (c, b)

-- a turning leaves contents that the map can hold, and an exchange that fits them
pub record IsTurnable (a : MapAttr) (c : Contents) (b : Back) : Type 0 where
  pub well : IsWell a c
  pub fits : exchange_fits a c b ≡ true

abbrev pub StaysTurnable : MapAttr → Contents → Back → Type 0
StaysTurnable a c b = IsTurnable a c b → IsTurnable a (exchanged c b).0 (exchanged c b).1

-- every accepted operation is the turning of an exchange that fits
pub record IsTurningOf (a : MapAttr) (c : Contents) (changed : Changed) : Type 0 where
  pub forth : Back
  pub fits : exchange_fits a c forth ≡ true
  pub turned : exchanged c forth ≡ (changed.contents, changed.back)

abbrev pub ChangesByTurning : MapAttr → Contents → MapOp → Changed → Type 0
ChangesByTurning a c op changed = IsWell a c → map_step a c op ≡ Ok changed → IsTurningOf a c changed

-- what an accepted operation leaves: its exchange can be turned there, and leads back
pub record IsTakenBack (a : MapAttr) (c : Contents) (changed : Changed) : Type 0 where
  pub turnable : IsTurnable a changed.contents changed.back
  pub restores : (exchanged changed.contents changed.back).0 ≡ c

abbrev pub ChangesBack : MapAttr → Contents → MapOp → Changed → Type 0
ChangesBack a c op changed = IsWell a c → map_step a c op ≡ Ok changed → IsTakenBack a c changed

-- a new map holds what it can hold
abbrev pub BeginsWell : MapAttr → Type 0
BeginsWell a = IsWell a (fresh a)

-- among entries the longest prefix of a key: it is there, it matches, and no other that matches is longer
pub record IsLongestMatch (es : List (List ℕ × List ℕ)) (key : List ℕ) (found : List ℕ × List ℕ) : Type 0 where
  pub there : Contains es found
  pub matches : is_prefix_of key found.0 ≡ true
  pub longest : All (λ e. is_prefix_of key e.0 ≡ true → prefix_length e.0 ≤ prefix_length found.0) es

-- a look-up in an LPM trie finds the longest prefix of the key, or nothing if none matches
abbrev pub FindsLongest : ByKey (List ℕ) → List ℕ → Type 0
FindsLongest m key =
    MatchOption (longest_match m key) (All (λ e. is_prefix_of key e.0 ≡ false) (entries m)) (IsLongestMatch (entries m) key)
