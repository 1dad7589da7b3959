-- The links of a host as they are read from its boxes, and what is retired by them.
use Rattle.std.specs.Prelude.{◌≡◌, ◌&&◌, ◌+◌, ◌*◌, ℕ, Bool, true, false, not, List, [], Option, Some, None, is_some, if◌then◌else◌}
use Rattle.std.specs.Option.{option_map, option_map_or, option_and_then}
use Rattle.std.specs.List.{filter_map, range_with_len}
use Rattle.std.specs.FinMap as map
use Rattle.host_state.specs.Prelude.{MapType, MapReply, map_read, Seen, ById, Target, Map, RootsView, IsAscending, Links, holds_ids}
use Rattle.host_state.specs.declared.entry.MapEntry.{MapEntry}
use Rattle.host_state.specs.State.{HostProg}
use Rattle.bt_mapkind.specs.declared.request.MapReply.TheVariants.{Nothing, Key}
use Rattle.bt_mapkind.specs.declared.request.Query.TheVariants.{Item}
use Rattle.host_state.specs.Ask.{count_of, element_of, id_in}
use Rattle.host_state.specs.Settled.{is_listed, links_of_prog, ListsRetired, named_in}
use Rattle.host_state.specs.declared.retirement.Retirement.{Retirement}
use Rattle.host_state.specs.Hosts.{Entries, live_target_in, hosts_of, state_of, RevivesEntries}
use Rattle.host_state.specs.Work.{calls_of_walk}

-- ---- what is read of a box: its elements by number, and the ids under its keys
-- whether the box of an id is that of a map of ids
abbrev pub holds_ids_in : ById Seen → ℕ → Bool
holds_ids_in boxes id = option_map_or (λ s. holds_ids s.attr.kind) (map.get boxes id) false

-- how many elements a dump of a box has, and the one of a number
abbrev pub count_at : Option Seen → ℕ
count_at box = option_map_or (λ s. count_of s.attr s.contents) box 0

abbrev pub element_at : Option Seen → ℕ → MapReply
element_at box n = option_map_or (λ s. element_of (map_read s.attr s.contents (Item n))) box Nothing

-- the id that the box of a map of ids has under a key
abbrev pub id_under : Option Seen → List ℕ → Option ℕ
id_under box key = option_and_then (λ s. id_in s.attr s.contents key) box

-- the one under the key of this number
abbrev pub key_told : MapReply → Option (List ℕ)
key_told (Key key) = Some key
key_told _ = None

abbrev pub id_at : Option Seen → ℕ → Option ℕ
id_at box number = option_and_then (id_under box) (key_told (element_at box number))

-- ---- the links of a host
-- the first so many links from a map of this type
abbrev pub links_read : ℕ → MapType → Option Seen → ℕ → Links
links_read id kind box count =
    filter_map (λ number. option_map (λ named. (Map id, named_in kind named)) (id_at box number)) (range_with_len 0 count)

-- the links of the box of a map of ids, if an entry stands that is not that of a box that waits
abbrev pub links_at : ℕ → Option Seen → Links
links_at id box = option_map_or (λ s. if holds_ids s.attr.kind then links_read id s.attr.kind box (count_at box) else []) box []

abbrev pub links_by : ById Seen → ℕ → Option MapEntry → Links
links_by boxes id entry = if is_some entry then links_at id (map.get boxes id) else []

-- how many calls of the box that takes at most
abbrev pub calls_by : ById Seen → ℕ → Option MapEntry → ℕ
calls_by boxes id entry = if is_some entry && holds_ids_in boxes id then 2 * count_at (map.get boxes id) + 1 else 0

-- how many calls a walk over the maps makes at most
abbrev pub calls_in : ById Seen → Entries → ℕ
calls_in boxes entries = calls_of_walk (hosts_of boxes entries)

-- the links of a program, if one stands
abbrev pub links_by_prog : ℕ → Option HostProg → Links
links_by_prog id prog = option_map_or (λ p. links_of_prog (id, p)) prog []

-- ---- what is retired
-- an object that is live and not among what is reachable
abbrev pub retires : Entries → List Target → Target → Option Target
retires entries live target = if live_target_in entries target && not (is_listed live target) then Some target else None

-- the objects that a change retires: just those that are live and no longer reachable, and they are retired now
pub record IsRetired (boxes : ById Seen) (old : Entries) (roots : RootsView) (retired : Retirement) (new : Entries) : Type 0 where
  pub lists : ListsRetired (state_of boxes old roots) retired.targets
  pub ascends : IsAscending retired.targets
  pub live : retired.live ≡ true
  pub entries : RevivesEntries old new retired.targets false

-- what a change retires if it walks over the links, and else nothing
abbrev pub RetiredIf : Bool → ById Seen → Entries → RootsView → Retirement → Entries → Type 0
RetiredIf true boxes old roots retired new = IsRetired boxes old roots retired new
RetiredIf false boxes old roots retired new = (retired.targets ≡ []) × (retired.live ≡ true) × (new ≡ old)
