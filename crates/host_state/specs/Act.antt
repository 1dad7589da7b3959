-- What a change does to a state: the state after it with its reply, or an errno. The cases and their order are this
-- project's profile of bpf(2), bpftool-map(8), bpftool-prog(8) and bpftool-net(8).
use Rattle.std.specs.Prelude.{ℕ, Bool, true, false, ◌&&◌, ◌||◌, not, List, Option, Some, None, is_some, Result, Ok, Err, if◌then◌else◌}
use Rattle.std.specs.Option.{option_map, option_map_or}
use Rattle.std.specs.List.{list_all}
use Rattle.std.specs.FinMap as map
use Rattle.host_state.specs.Prelude.{is_name, MapAttr, MapType, Errno, ENOENT, EINVAL, EPERM, EEXIST, EBUSY, MapOp, MapReply, good, Contents, map_step, is_flag, Checked, Target, Map, Prog, holds_ids, form_fault}
use Rattle.host_words.specs.Spelling.{is_path}
use Rattle.bt_mapkind.specs.declared.request.MapOp.TheVariants.{Update as UpdateOp, Push as PushOp, Store as StoreOp, Atomic as AtomicOp, SetLink as SetLinkOp}
use Rattle.bt_mapkind.specs.declared.request.MapReply.TheVariants.{Value as MapValue}
use Rattle.bt_mapkind.specs.Step.{Step}
use Rattle.bt_roots.specs.View.{position_of}
use Rattle.bt_roots.specs.Exchange.{prog_at, attach_at}
use Rattle.host_state.specs.declared.change.Change.{Change}
use Rattle.host_state.specs.declared.change.Change.TheVariants.{Create, Operate, Freeze, Link, Load, Pin, Unpin, Attach, Detach}
use Rattle.host_state.specs.declared.change.Origin.{Origin}
use Rattle.host_state.specs.declared.change.Origin.TheVariants.{Console, Prog as ByProg}
use Rattle.host_state.specs.declared.reply.Reply.{Reply}
use Rattle.host_state.specs.declared.reply.Reply.TheVariants.{Done, Id, Loaded, Value, Old}
use Rattle.host_state.specs.State.{HostMap, HostProg, State, made, new_entry}
use Rattle.host_state.specs.Settled.{settle, is_live_in, named_in}
use Rattle.bt_mapkind.specs.Index.{number_of}
use Rattle.bt_mapkind.specs.Inner.{needs_template, map_fault}

abbrev pub Outcome : Type 0
Outcome = Result (State × Reply) Errno

-- ---- a change of what a map holds
-- the live map of the id
abbrev pub if_live : Option HostMap → Option HostMap
if_live None = None
if_live (Some m) = if m.live then Some m else None

abbrev pub live_map : State → ℕ → Option HostMap
live_map s id = if_live (map.get s.maps id)

-- an outcome, unless something stands against it
abbrev pub unless : Option Errno → Outcome → Outcome
unless (Some errno) outcome = Err errno
unless None outcome = outcome

-- the state with other contents of the map
abbrev pub with_contents : State → ℕ → HostMap → Contents → State
with_contents s id m contents = record s { maps = map.insert s.maps id (record m { contents = contents }) }

abbrev pub is_console : Origin → Bool
is_console Console = true
is_console (ByProg id) = false

-- the flag of an operation, if it has one
abbrev pub flag_of : MapOp → ℕ
flag_of (UpdateOp key value flag) = flag
flag_of (PushOp value flag) = flag
flag_of (SetLinkOp key id flag) = flag
flag_of _ = 0

-- the bytes that an operation gives: an atomic instruction those that stood there, as a number, another the item that it
-- took; or that it is done
abbrev pub bytes_told : MapOp → List ℕ → Reply
bytes_told (AtomicOp key offset size op operand) bytes = Old (number_of bytes)
bytes_told _ bytes = Value bytes

abbrev pub reply_of : MapOp → MapReply → Reply
reply_of op (MapValue bytes) = bytes_told op bytes
reply_of op _ = Done

-- whether the console may ask for an operation, which reaches values whole and puts ids by links; and whether a program
-- may, of a map of bytes
abbrev pub is_for_console : MapOp → Bool
is_for_console (StoreOp key offset bytes) = false
is_for_console (AtomicOp key offset size op operand) = false
is_for_console (SetLinkOp key id flag) = false
is_for_console _ = true

abbrev pub is_for_program : MapOp → Bool
is_for_program (SetLinkOp key id flag) = false
is_for_program _ = true

-- whether who asks for an operation may not have it, on a map that holds ids or does not
abbrev pub bars : Origin → Bool → MapOp → Bool
bars Console holds op = not (is_for_console op)
bars (ByProg id) holds op = holds || not (is_for_program op)

-- what a step of its table leaves of a map
abbrev pub operated_to : State → ℕ → HostMap → MapOp → Step → Outcome
operated_to s id m op (Err errno) = Err errno
operated_to s id m op (Ok step) = Ok (settle (with_contents s id m step.contents), reply_of op step.reply)

-- ---- a link: an id put into a map of ids, by the console alone
abbrev pub attr_if_live : Option HostMap → Option MapAttr
attr_if_live found = option_map (λ m. m.attr) found

-- what stands against the object that an id names, by what finds live maps and what tells that an object is live
abbrev pub object_fault : (ℕ → Option HostMap) → (Target → Bool) → Option MapAttr → Target → Option Errno
object_fault found lives template (Map id) = map_fault template (attr_if_live (found id))
object_fault found lives template (Prog id) = if lives (Prog id) then None else Some ENOENT

-- ---- a frozen map
abbrev pub with_frozen : State → ℕ → HostMap → Bool → State
with_frozen s id m frozen = record s { maps = map.insert s.maps id (record m { frozen = frozen }) }

-- ---- a pin, at a path at which nothing is pinned, of an object that is in the state
abbrev pub pinned_as : State → Target → List ℕ → Reply → Outcome
pinned_as s target path reply =
    if not (is_path path) then Err EINVAL else
    if map.contains_key s.pins path then Err EEXIST else
    Ok (settle (record s { pins = map.insert s.pins path target }), reply)

-- ---- a new map
-- the attributes that the inner maps are to have: those of a live map of bytes, found under the id that is named
abbrev pub template_by : (ℕ → Option MapAttr) → MapType → Option ℕ → Result (Option MapAttr) Errno
template_by found kind None = if needs_template kind then Err EINVAL else Ok None
template_by found kind (Some id) =
    option_map_or (λ a. if needs_template kind && not (holds_ids a.kind) then Ok (Some a) else Err EINVAL) (found id) (Err ENOENT)

abbrev pub created_with : State → ℕ → MapAttr → ℕ → List ℕ → List ℕ → Result (Option MapAttr) Errno → Outcome
created_with s id attr charge name path (Err errno) = Err errno
created_with s id attr charge name path (Ok template) =
    pinned_as (record s { maps = map.insert s.maps id (made (record { attr = attr; charge = charge }) (new_entry name template)) }) (Map id) path (Id id)

-- ---- a new program
abbrev pub new_prog : Checked → List ℕ → HostProg
new_prog code name = record { code = code; name = name; live = true }

-- the state with this program, or none, attached to the device at the position
abbrev pub with_attached : State → ℕ → Option ℕ → State
with_attached s position prog = record s { devices = attach_at s.devices position prog }

-- ---- a change
-- what is done with the live map of an id, or with the device of a name, or ENOENT
abbrev pub on_live : State → ℕ → (HostMap → Outcome) → Outcome
on_live s id outcome = option_map_or outcome (live_map s id) (Err ENOENT)

abbrev pub on_device : State → List ℕ → (ℕ → Outcome) → Outcome
on_device s device outcome = option_map_or outcome (position_of s.devices device) (Err ENOENT)

-- only a program writes a frozen map, and a device that has a program gives it up only to an overwrite. A create or a load
-- is spoken of only on states that do not have its id; of others it answers EEXIST
unfoldable pub act : State → Change → Outcome
act s (Create id attr charge name path template) =
    if map.contains_key s.maps id then Err EEXIST else
    if not (good attr && is_name name) then Err EINVAL else
    created_with s id attr charge name path (template_by (λ id. attr_if_live (live_map s id)) attr.kind template)
act s (Operate origin id op) =
    on_live s id (λ m.
    if not (is_flag (flag_of op)) then Err EINVAL else
    if is_console origin && m.frozen then Err EPERM else
    if bars origin (holds_ids m.attr.kind) op then Err EINVAL else
    operated_to s id m op (map_step m.attr m.contents op)
    )
act s (Freeze id) = on_live s id (λ m. if m.frozen then Err EBUSY else Ok (settle (with_frozen s id m true), Done))
act s (Link id key named flag) =
    on_live s id (λ m.
    if not (is_flag flag) then Err EINVAL else
    if m.frozen then Err EPERM else
    unless (form_fault m.attr key flag) (
    unless (object_fault (live_map s) (is_live_in s) m.template (named_in m.attr.kind named)) (
    operated_to s id m (SetLinkOp key named flag) (map_step m.attr m.contents (SetLinkOp key named flag))
    )
    )
    )
act s (Load id code name path) =
    if map.contains_key s.progs id then Err EEXIST else
    if not (list_all (λ m. is_live_in s (Map m.0)) code.maps) then Err ENOENT else
    pinned_as (record s { progs = map.insert s.progs id (new_prog code name) }) (Prog id) path (Loaded id)
act s (Pin target path) =
    if not (is_live_in s target) then Err ENOENT else pinned_as s target path Done
act s (Unpin path) =
    if map.contains_key s.pins path then Ok (settle (record s { pins = map.remove s.pins path }), Done) else Err ENOENT
act s (Attach prog device overwrite) =
    if not (is_live_in s (Prog prog)) then Err ENOENT else
    on_device s device (λ position.
    if is_some (prog_at s.devices position) && not overwrite then Err EBUSY else
    Ok (settle (with_attached s position (Some prog)), Done)
    )
act s (Detach device) =
    on_device s device (λ position.
    if is_some (prog_at s.devices position) then Ok (settle (with_attached s position None), Done) else Err ENOENT
    )
