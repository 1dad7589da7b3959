-- What a change writes and what it looks at, and when a later change is apart from an earlier one.
use Rattle.std.specs.Prelude.{◌&&◌, ◌==◌, ℕ, Bool, true, false, not, List, [], ◌∷◌, ◌++◌, nat_eq, Option, Some, None, Ok, Err}
use Rattle.std.specs.Option.{option_map_or}
use Rattle.std.specs.List.{list_any}
use Rattle.std.specs.Cmp.Lexicographic.{pointwise}
use Rattle.bt_mapkind.specs.declared.exchange.Back.{Back}
use Rattle.bt_mapkind.specs.declared.exchange.Back.TheVariants.{Key, Ends}
use Rattle.bt_mapkind.specs.declared.request.MapOp.{MapOp}
use Rattle.bt_mapkind.specs.declared.request.MapOp.TheVariants.{Delete}
use Rattle.bt_mapkind.specs.Kept.{is_keyed}
use Rattle.bt_mapkind.specs.Step.{Step, map_step}
use Rattle.host_state.specs.declared.change.Change.{Change}
use Rattle.host_state.specs.declared.change.Change.TheVariants.{Operate, Freeze, Link}
use Rattle.host_state.specs.declared.change.Origin.{Origin}
use Rattle.host_state.specs.declared.change.Origin.TheVariants.{Console, Prog as ByProg}
use Rattle.host_state.specs.State.{State}
use Rattle.host_state.specs.Act.{live_map}
use Rattle.host_undoing.specs.declared.undoing.Part.{Part}
use Rattle.host_undoing.specs.declared.undoing.Part.TheVariants.{Contents}

-- what stands under a key of a map; how many keys a map has; all that a map holds; whether it is frozen; and all that
-- pins, attachments, programs and maps of ids link
pub data Spot : Type 0 where
  Under : ℕ → List ℕ → Spot
  Room : ℕ → Spot
  Whole : ℕ → Spot
  Frozen : ℕ → Spot
  Links : Spot

-- all that a map holds is what stands under each key, and how many keys there are
abbrev pub meets : Spot → Spot → Bool
meets (Under m key) (Under n other) = (m == n) && pointwise nat_eq key other
meets (Under m key) (Whole n) = m == n
meets (Room m) (Room n) = m == n
meets (Room m) (Whole n) = m == n
meets (Whole m) (Under n other) = m == n
meets (Whole m) (Room n) = m == n
meets (Whole m) (Whole n) = m == n
meets (Frozen m) (Frozen n) = m == n
meets Links Links = true
meets _ _ = false

abbrev pub any_meet : List Spot → List Spot → Bool
any_meet spots others = list_any (λ w. list_any (meets w) others) spots

-- a new key needs a free entry, as a delete leaves
abbrev pub room_written : ℕ → MapOp → List Spot
room_written id (Delete key) = Room id ∷ []
room_written id _ = []

abbrev pub room_looked_at : ℕ → Option (List ℕ) → List Spot
room_looked_at id None = Room id ∷ []
room_looked_at id (Some value) = []

-- a freeze stops the console, not programs
abbrev pub frozen_for : Origin → ℕ → List Spot
frozen_for Console id = Frozen id ∷ []
frozen_for (ByProg prog) id = []

-- by the exchange that takes an operation back
abbrev pub written_in : ℕ → MapOp → Option Back → List Spot
written_in id op (Some (Key key value)) = Under id key ∷ room_written id op
written_in id op (Some (Ends _ _ _ _)) = Whole id ∷ []
written_in id op _ = Links ∷ []

abbrev pub looked_at_in : Origin → ℕ → Option Back → List Spot
looked_at_in origin id (Some (Key key value)) = Under id key ∷ Links ∷ room_looked_at id value ++ frozen_for origin id
looked_at_in origin id (Some (Ends _ _ _ _)) = Whole id ∷ Links ∷ frozen_for origin id
looked_at_in origin id _ = Links ∷ Frozen id ∷ []

abbrev pub written : Change → Option Back → List Spot
written (Operate origin id op) back = written_in id op back
written (Freeze id) back = Frozen id ∷ []
written _ back = Links ∷ []

abbrev pub looked_at : Change → Option Back → List Spot
looked_at (Operate origin id op) back = looked_at_in origin id back
looked_at (Freeze id) back = Frozen id ∷ Links ∷ []
looked_at (Link id key named flag) back = Links ∷ Frozen id ∷ []
looked_at _ back = Links ∷ []

abbrev pub touched : Change → Option Back → List Spot
touched change back = written change back ++ looked_at change back

abbrev pub back_of_part : Part → Option Back
back_of_part (Contents id k) = Some k.back
back_of_part _ = None

-- a later change touches nothing that the earlier one writes
abbrev pub are_apart : Change → Part → Change → Part → Bool
are_apart change part later later_part = not (any_meet (written change (back_of_part part)) (touched later (back_of_part later_part)))

-- an exchange of one key of a map of bytes
abbrev pub is_keyed_back : Option Back → Bool
is_keyed_back back = option_map_or is_keyed back false

-- the exchange that the table gives for an accepted operation
abbrev pub step_back : Step → Option Back
step_back (Ok changed) = Some changed.back
step_back (Err errno) = None

abbrev pub back_in : State → Change → Option Back
back_in s (Operate origin id op) = option_map_or (λ m. step_back (map_step m.attr m.contents op)) (live_map s id) None
back_in s _ = None
