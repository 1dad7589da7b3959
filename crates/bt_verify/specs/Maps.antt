-- Lists of maps: ids with attributes.
use Rattle.std.specs.Prelude.{◌≡◌, ◌≢◌, ℕ, ◌<◌, ◌==◌, nat_lt, ◌↔◌, Option, Some, None, if◌then◌else◌, List, [], ◌∷◌, AllPairs, Contains, slice_get}
use Rattle.bt_insn.specs.declared.register.Register.{Register}
use Rattle.bt_insn.specs.declared.insn.Insn.TheVariants.{LoadMap}
use Rattle.bt_mapkind.specs.declared.attr.MapAttr.{MapAttr}
use Rattle.bt_verify.specs.declared.slot.Slot.{Slot}
use Rattle.bt_verify.specs.declared.slot.Slot.TheVariants.{First}

-- no id stands twice
abbrev pub AreDistinct : List (ℕ × MapAttr) → Type 0
AreDistinct maps = AllPairs (λ a b. a.0 ≢ b.0) maps

-- the attributes of the map with this id
unfoldable pub find_map : List (ℕ × MapAttr) → ℕ → Option MapAttr
find_map [] id = None
find_map (m ∷ maps) id = if m.0 == id then Some m.1 else find_map maps id

-- each id is above those before
abbrev pub AreAscending : List (ℕ × MapAttr) → Type 0
AreAscending maps = AllPairs (λ a b. a.0 < b.0) maps

-- an instruction names this map
abbrev pub IsNamed : List Slot → ℕ → Type 0
IsNamed code id = (k : ℕ) × (dst : Register) × (slice_get code k ≡ Some (First (LoadMap dst id)))

-- exactly the pairs of a list whose ids the program names, each once, by ascending id
pub record AreNamed (code : List Slot) (list maps : List (ℕ × MapAttr)) : Type 0 where
  pub ascending : AreAscending maps
  pub exactly : (m : ℕ × MapAttr) → Contains maps m ↔ (Contains list m × IsNamed code m.0)

-- the pair that the instruction in a slot names
abbrev pub with_id : ℕ → Option MapAttr → Option (ℕ × MapAttr)
with_id id None = None
with_id id (Some attr) = Some (id, attr)

abbrev pub map_of : Slot → List (ℕ × MapAttr) → Option (ℕ × MapAttr)
map_of (First (LoadMap dst id)) list = with_id id (find_map list id)
map_of _ list = None

-- a pair put in its place
unfoldable pub with_map : ℕ × MapAttr → List (ℕ × MapAttr) → List (ℕ × MapAttr)
with_map m [] = m ∷ []
with_map m (x ∷ maps) = if nat_lt x.0 m.0 then x ∷ with_map m maps else if m.0 == x.0 then m ∷ maps else m ∷ x ∷ maps
