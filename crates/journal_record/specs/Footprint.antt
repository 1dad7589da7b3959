-- What a footprint says of a change: what it writes, and all that it touches.
use Rattle.std.specs.Prelude.{◌≡◌, ℕ, Bool, true, false, List, [], Option, Some, None, if◌then◌else◌}
use Rattle.bt_mapkind.specs.declared.exchange.Back.{Back}
use Rattle.bt_mapkind.specs.declared.exchange.Back.TheVariants.{Key, Link as LinkBack}
use Rattle.bt_mapkind.specs.declared.request.MapOp.{MapOp}
use Rattle.bt_mapkind.specs.declared.request.MapOp.TheVariants.{Delete, Pop}
use Rattle.host_state.specs.declared.change.Change.{Change}
use Rattle.host_state.specs.declared.change.Change.TheVariants.{Operate, Freeze, Link, Unpin}
use Rattle.host_undoing.specs.declared.undoing.Part.{Part}
use Rattle.host_apart.specs.Spots.{Spot, written, touched, back_of_part}
use Rattle.journal_record.specs.declared.footprint.Footprint.{Footprint}
use Rattle.journal_record.specs.declared.footprint.Footprint.TheVariants.{Operation, Freeze as Freezes, Link as Links, Other}

-- of an operation it tells no more than whether it is a delete
abbrev pub some_op : Bool → MapOp
some_op deletes = if deletes then Delete [] else Pop

-- a change that leaves such a footprint
abbrev pub some_change : Footprint → Change
some_change (Operation origin map deletes kept) = Operate origin map (some_op deletes)
some_change (Freezes map) = Freeze map
some_change (Links map) = Link map [] 0 0
some_change Other = Unpin []

abbrev pub back_seen : Footprint → Option Back
back_seen (Operation origin map deletes kept) = Some kept.now.back
back_seen _ = None

abbrev pub written_by : Footprint → List Spot
written_by f = written (some_change f) (back_seen f)

abbrev pub touched_by : Footprint → List Spot
touched_by f = touched (some_change f) (back_seen f)

-- so it tells all that it writes, and all that it touches
pub record IsFootprint (f : Footprint) (change : Change) (part : Part) : Type 0 where
  pub writes : written_by f ≡ written change (back_of_part part)
  pub touches : touched_by f ≡ touched change (back_of_part part)

abbrev pub key_in : Back → List ℕ
key_in (Key key value) = key
key_in _ = []

-- an exchange of bytes, and not of a link
abbrev pub is_of_bytes : Back → Bool
is_of_bytes (LinkBack key id) = false
is_of_bytes _ = true
