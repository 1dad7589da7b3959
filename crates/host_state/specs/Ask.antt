-- The answers to questions about a state.
use Rattle.std.specs.Prelude.{ℕ, ⊤, suc, List, [], ◌∷◌, ◌++◌, Option, Some, None, Result, Ok, Err, length, if◌then◌else◌, map as each}
use Rattle.std.specs.Option.{option_map, option_and_then}
use Rattle.std.specs.Result.{result_unwrap_or}
use Rattle.std.specs.List.{filter, filter_map, range_with_len}
use Rattle.std.specs.FinMap as map
use Rattle.host_state.specs.Prelude.{Errno, ENOENT, EINVAL, MapAttr, MapReply, Contents, map_read, Device, ById, holds_progs}
use Rattle.bt_mapkind.specs.declared.request.Query.TheVariants.{Lookup, Item, Count}
use Rattle.bt_mapkind.specs.declared.request.MapReply.TheVariants as reply
use Rattle.bt_mapkind.specs.Read.{key_of_index}
use Rattle.bt_verify.specs.Program.{ProgramView}
use Rattle.bt_roots.specs.Exchange.{device_named}
use Rattle.host_state.specs.declared.shown.MapRow.{MapRow}
use Rattle.host_state.specs.declared.shown.Element.{Element}
use Rattle.host_state.specs.declared.shown.Element.TheVariants as element
use Rattle.host_state.specs.declared.shown.ProgRow.{ProgRow}
use Rattle.host_state.specs.declared.shown.DeviceRow.{DeviceRow}
use Rattle.host_state.specs.declared.ask.Ask.{Ask}
use Rattle.host_state.specs.declared.ask.Ask.TheVariants.{Attr, Map, Maps, Dump, Progs, Code, Pinned, Devices, Start, Fetch}
use Rattle.host_state.specs.declared.ask.AskReply.{AskReply}
use Rattle.host_state.specs.declared.ask.AskReply.TheVariants.{Attr as AttrReply, Answered, Maps as MapsReply, Dump as DumpReply, Progs as ProgsReply, Code as CodeReply, Pinned as PinnedReply, Devices as DevicesReply, Started, Fetched, Refused}
use Rattle.host_state.specs.State.{HostMap, HostProg, State}
use Rattle.host_state.specs.Settled.{maps_named}
use Rattle.host_state.specs.Act.{live_map}

-- the answer that is made of what is found, or ENOENT
abbrev pub if_found : {X : Type 0} → (X → AskReply) → Option X → AskReply
if_found answer None = Refused ENOENT
if_found answer (Some x) = answer x

-- the answer of a map
abbrev pub reply_of : Result MapReply Errno → AskReply
reply_of (Ok reply) = Answered reply
reply_of (Err errno) = Refused errno

-- ---- maps shown: the live ones by ascending id, or the one that is found under an id
abbrev pub row_of : ℕ × HostMap → MapRow
row_of e = record { id = e.0; attr = e.1.attr; name = e.1.name; frozen = e.1.frozen }

abbrev pub rows_of : ById HostMap → List MapRow
rows_of maps = each row_of (filter (λ e. e.1.live) (map.entries maps))

abbrev pub maps_shown : ById HostMap → (ℕ → Option HostMap) → Option ℕ → AskReply
maps_shown maps found None = MapsReply (rows_of maps)
maps_shown maps found (Some id) = if_found (λ m. MapsReply (row_of (id, m) ∷ [])) (found id)

-- ---- a dump
abbrev pub element_of : Result MapReply Errno → MapReply
element_of answer = result_unwrap_or answer reply.Nothing

-- how many elements a map lists
abbrev pub count_in : MapReply → ℕ
count_in (reply.Count n) = n
count_in _ = 0

abbrev pub count_of : MapAttr → Contents → ℕ
count_of a contents = count_in (element_of (map_read a contents Count))

-- the id under a key of a map of ids
abbrev pub id_told : MapReply → Option ℕ
id_told (reply.Link id) = Some id
id_told _ = None

abbrev pub id_in : MapAttr → Contents → List ℕ → Option ℕ
id_in a contents key = id_told (element_of (map_read a contents (Lookup key)))

-- what is shown of an element, if a map of ids lists just its keys, with what finds the ids
abbrev pub shown_as : (List ℕ → Option ℕ) → MapReply → Option Element
shown_as id_under (reply.Found key value) = Some (element.Pair key value)
shown_as id_under (reply.Value bytes) = Some (element.Item bytes)
shown_as id_under (reply.Key key) = option_map (λ id. element.Link key id) (id_under key)
shown_as id_under _ = None

-- the elements, in the order of their numbers
abbrev pub elements_of : MapAttr → Contents → List Element
elements_of a contents =
    filter_map (λ n. shown_as (id_in a contents) (element_of (map_read a contents (Item n)))) (range_with_len 0 (count_of a contents))

-- ---- programs shown: the live ones by ascending id, or the one that is found under an id
abbrev pub prog_row : ℕ × HostProg → ProgRow
prog_row e = record { id = e.0; name = e.1.name; insns = length e.1.code.insns; maps = maps_named e.1 }

abbrev pub prog_rows : ById HostProg → List ProgRow
prog_rows progs = each prog_row (filter (λ e. e.1.live) (map.entries progs))

abbrev pub progs_shown : ById HostProg → (ℕ → Option HostProg) → Option ℕ → AskReply
progs_shown progs found None = ProgsReply (prog_rows progs)
progs_shown progs found (Some id) = if_found (λ p. ProgsReply (prog_row (id, p) ∷ [])) (found id)

-- the live program of the id
abbrev pub if_live_prog : Option HostProg → Option HostProg
if_live_prog None = None
if_live_prog (Some p) = if p.live then Some p else None

abbrev pub live_prog : State → ℕ → Option HostProg
live_prog s id = if_live_prog (map.get s.progs id)

-- ---- devices shown: those to which a program is attached, in order, the first with this ifindex, or one by its name
abbrev pub device_rows_if : List ℕ → ℕ → Option ℕ → List DeviceRow
device_rows_if name ifindex None = []
device_rows_if name ifindex (Some prog) = record { name = name; ifindex = ifindex; prog = prog } ∷ []

abbrev pub device_rows : ℕ → List Device → List DeviceRow
device_rows ifindex [] = []
device_rows ifindex (device ∷ devices) =
    device_rows_if device.name ifindex device.prog ++ device_rows (suc ifindex) devices

abbrev pub devices_shown : List Device → Option (List ℕ) → AskReply
devices_shown devices None = DevicesReply (device_rows 1 devices)
devices_shown devices (Some name) =
    if_found (λ device. DevicesReply (device_rows_if name device.0 device.1)) (device_named devices name)

-- the program that an id names, if one does, with the id
abbrev pub named : (ℕ → Option HostProg) → Option ℕ → Option ProgramView
named found id = option_and_then (λ id. option_map (λ (p : HostProg). record { id = id; code = p.code }) (found id)) id

-- ---- a question
-- it asks of one map or one path what is told without a list
abbrev pub IsLookUp : Ask → Type 0
IsLookUp (Attr id) = ⊤
IsLookUp (Map id query) = ⊤
IsLookUp (Pinned path) = ⊤
IsLookUp _ = ⊥

-- a device is asked for the program that is attached to it, with its ifindex; a map of programs for the one whose id stands
-- at an index
unfoldable pub ask : State → Ask → AskReply
ask s (Attr id) = if_found (λ m. AttrReply m.attr) (live_map s id)
ask s (Map id query) = if_found (λ m. reply_of (map_read m.attr m.contents query)) (live_map s id)
ask s (Maps only) = maps_shown s.maps (live_map s) only
ask s (Dump id) = if_found (λ m. DumpReply (elements_of m.attr m.contents)) (live_map s id)
ask s (Progs only) = progs_shown s.progs (live_prog s) only
ask s (Code id) = if_found (λ p. CodeReply p.code.insns) (live_prog s id)
ask s (Pinned path) = if_found PinnedReply (map.get s.pins path)
ask s (Devices only) = devices_shown s.devices only
ask s (Start device) =
    if_found (λ d. Started (option_map (λ program. (program, d.0)) (named (live_prog s) d.1))) (device_named s.devices device)
ask s (Fetch id index) =
    if_found (λ m.
    if holds_progs m.attr.kind then Fetched (named (live_prog s) (id_in m.attr m.contents (key_of_index index))) else
    Refused EINVAL
    ) (live_map s id)
