-- The units of work that a call counts: one for each call of a box.
use Rattle.std.specs.Prelude.{◌≡◌, ◌&&◌, ◌⊎◌, ◌≤◌, ◌+◌, ◌*◌, ℕ, zero, suc, Bool, true, false, List, Option, None, is_some, slice_index_or, Result, Ok, Err, sum_by, if◌then◌else◌}
use Rattle.std.specs.Option.{option_map_or}
use Rattle.std.specs.FinMap as map
use Rattle.host_state.specs.Prelude.{ById, holds_ids}
use Rattle.host_state.specs.declared.change.Change.{Change}
use Rattle.host_state.specs.State.{HostMap, State}
use Rattle.host_state.specs.Act.{is_console, live_map}
use Rattle.host_state.specs.Ask.{count_of}
use Rattle.bt_objects.specs.Boxes.{one_more}
use Rattle.bt_mapkind.specs.Contents.{Contents as Held, Slots, Links}
use Rattle.bt_mapkind.specs.Index.{index_of}
use Rattle.host_state.specs.declared.ask.Ask.{Ask}
use Rattle.host_state.specs.declared.ask.Ask.TheVariants.{Map, Dump, Fetch}
use Rattle.host_state.specs.declared.change.Change.TheVariants.{Operate, Link, Unpin, Attach, Detach}

-- all of the work was done, or none
abbrev pub AllOrNone : ℕ → ℕ → ℕ → Type 0
AllOrNone old most new = (new ≡ old) ⊎ (new ≡ most)

-- the work after so many calls
abbrev pub after_calls : ℕ → ℕ → ℕ
after_calls zero work = work
after_calls (suc n) work = one_more (after_calls n work)

-- no more calls were made
abbrev pub CallsAtMost : ℕ → ℕ → ℕ → Type 0
CallsAtMost most old new = (calls : ℕ) × (calls ≤ most) × (new ≡ after_calls calls old)

abbrev pub holds_ids_at : Option HostMap → Bool
holds_ids_at found = option_map_or (λ m. holds_ids m.attr.kind) found false

-- the id that a map of ids has under a key
abbrev pub link_under : Held → List ℕ → Option ℕ
link_under (Slots slots) key = slice_index_or slots (index_of key) None
link_under (Links m) key = map.get m key
link_under _ key = None

abbrev pub has_link_under : Option HostMap → List ℕ → Bool
has_link_under found key = option_map_or (λ m. is_some (link_under m.contents key)) found false

-- whether a change may take a link, a pin or an attached program away, so that it walks over the links: a link that goes
-- into an empty slot takes none away, and a program may not operate on a map of ids
abbrev pub walks : State → Change → Bool
walks s (Operate origin id op) = is_console origin && holds_ids_at (live_map s id)
walks s (Link id key named flag) = has_link_under (live_map s id) key
walks s (Unpin path) = true
walks s (Attach prog device overwrite) = overwrite
walks s (Detach device) = true
walks s _ = false

-- how many calls of boxes a walk over the links makes at most: on each map of ids it asks for the count, and for each entry
-- that there is room for, its key and the id under it
abbrev pub calls_of_walk : ById HostMap → ℕ
calls_of_walk maps = sum_by (λ e. if holds_ids e.1.attr.kind then 2 * e.1.attr.max_entries + 1 else 0) (map.entries maps)

-- the most calls of a change that walks: those of the walk, and if it puts or takes a link those of the operation and of
-- what takes it back
abbrev pub most_calls : State → Change → ℕ
most_calls s (Operate origin id op) = calls_of_walk s.maps + 2
most_calls s (Link id key named flag) = calls_of_walk s.maps + 2
most_calls s _ = calls_of_walk s.maps

-- the work of a walk, if there is one
abbrev pub WorksAt : Bool → ℕ → ℕ → ℕ → Type 0
WorksAt false most old new = new ≡ old
WorksAt true most old new = CallsAtMost most old new

-- a change that does not walk counts no more than its operation: accepted all of it, refused all or none
abbrev pub Works : {A E : Type 0} → Bool → ℕ → Result A E → ℕ → ℕ → ℕ → Type 0
Works false most (Ok done) old all new = new ≡ all
Works false most (Err refusal) old all new = AllOrNone old all new
Works true most result old all new = CallsAtMost most old new

-- an operation calls its box once, other changes call none but in a walk
abbrev pub after_change : Change → ℕ → ℕ
after_change (Operate origin id op) work = one_more work
after_change (Link id key named flag) work = one_more work
after_change _ work = work

-- how many calls of boxes a question makes at most: a fetch reads its slot; a dump asks for the count, for each element,
-- and for the id under each key of a map of ids; what is shown of a map is known without the box
abbrev pub calls_at : Option HostMap → ℕ
calls_at found = option_map_or (λ m. 2 * count_of m.attr m.contents + 1) found 0

abbrev pub calls_of : State → Ask → ℕ
calls_of s (Map id query) = 1
calls_of s (Dump id) = calls_at (live_map s id)
calls_of s (Fetch id index) = 1
calls_of s _ = 0
