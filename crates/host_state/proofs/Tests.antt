-- The tests of a change, each with a name, by what is found: what `act` does with a map, a template, a program, a path or a
-- device.
use Rattle.std.specs.Prelude.{ℕ, Bool, true, ◌&&◌, not, List, Option, Some, None, is_some, Result, Ok, Err, if◌then◌else◌}
use Rattle.std.specs.Option.{option_map_or}
use Rattle.std.specs.List.{list_all}
use Rattle.std.specs.FinMap as map
use Rattle.bt_mapkind.specs.declared.attr.MapAttr.{MapAttr}
use Rattle.bt_mapkind.specs.declared.attr.MapType.{MapType}
use Rattle.bt_mapkind.specs.declared.errno.Errno.{Errno}
use Rattle.bt_mapkind.specs.declared.errno.Errno.TheVariants.{ENOENT, EINVAL, EPERM, EEXIST, EBUSY}
use Rattle.bt_mapkind.specs.declared.request.MapOp.{MapOp}
use Rattle.bt_mapkind.specs.declared.request.MapOp.TheVariants.{SetLink}
use Rattle.bt_mapkind.specs.Step.{map_step, is_flag}
use Rattle.bt_verify.specs.Verified.{Checked}
use Rattle.bt_roots.specs.declared.target.Target.{Target}
use Rattle.bt_roots.specs.declared.target.Target.TheVariants.{Map, Prog}
use Rattle.bt_roots.specs.Exchange.{prog_at}
use Rattle.host_state.specs.declared.change.Origin.{Origin}
use Rattle.host_state.specs.declared.reply.Reply.TheVariants.{Done, Loaded}
use Rattle.host_state.specs.State.{HostMap, HostProg, State, made, new_entry}
use Rattle.host_state.specs.Settled.{settle, is_live_in, named_in}
use Rattle.bt_mapkind.specs.Inner.{holds_ids, needs_template, form_fault}
use Rattle.host_state.specs.Act.{Outcome, live_map, attr_if_live, unless, is_console, flag_of, bars, operated_to, object_fault, template_by, with_frozen, with_attached, pinned_as}

abbrev pub operated_at : State → ℕ → Option HostMap → Origin → MapOp → Outcome
operated_at s id found origin op =
    option_map_or (λ m.
    if not (is_flag (flag_of op)) then Err EINVAL else
    if is_console origin && m.frozen then Err EPERM else
    if bars origin (holds_ids m.attr.kind) op then Err EINVAL else
    operated_to s id m op (map_step m.attr m.contents op)
    ) found (Err ENOENT)

abbrev pub named_fault : State → Option MapAttr → Target → Option Errno
named_fault s template target = object_fault (live_map s) (is_live_in s) template target

abbrev pub prog_fault : Bool → Option Errno
prog_fault live = if live then None else Some ENOENT

abbrev pub linked_at : State → ℕ → Option HostMap → List ℕ → ℕ → ℕ → Outcome
linked_at s id found key named flag =
    option_map_or (λ m.
    if not (is_flag flag) then Err EINVAL else
    if m.frozen then Err EPERM else
    unless (form_fault m.attr key flag) (
    unless (named_fault s m.template (named_in m.attr.kind named)) (
    operated_to s id m (SetLink key named flag) (map_step m.attr m.contents (SetLink key named flag))
    )
    )
    ) found (Err ENOENT)

abbrev pub unless_frozen : Bool → State → Outcome
unless_frozen frozen s = if frozen then Err EBUSY else Ok (s, Done)

abbrev pub frozen_at : State → ℕ → Option HostMap → Outcome
frozen_at s id found = option_map_or (λ m. unless_frozen m.frozen (settle (with_frozen s id m true))) found (Err ENOENT)

-- a new map
abbrev pub new_map : MapAttr → ℕ → List ℕ → Option MapAttr → HostMap
new_map attr charge name template = made (record { attr = attr; charge = charge }) (new_entry name template)

-- states with another pin, without one, and with a program and its pin
abbrev pub with_pin : State → List ℕ → Target → State
with_pin s path target = record s { pins = map.insert s.pins path target }

abbrev pub without_pin : State → List ℕ → State
without_pin s path = record s { pins = map.remove s.pins path }

abbrev pub with_prog : State → ℕ → HostProg → List ℕ → State
with_prog s id prog path = record s { progs = map.insert s.progs id prog; pins = map.insert s.pins path (Prog id) }

abbrev pub pinned : State → Target → List ℕ → Outcome
pinned s target path = if not (is_live_in s target) then Err ENOENT else pinned_as s target path Done

abbrev pub template_from : MapType → Option MapAttr → Result (Option MapAttr) Errno
template_from kind found =
    option_map_or (λ a. if needs_template kind && not (holds_ids a.kind) then Ok (Some a) else Err EINVAL) found (Err ENOENT)

abbrev pub template_of : State → MapType → Option ℕ → Result (Option MapAttr) Errno
template_of s kind named = template_by (λ id. attr_if_live (live_map s id)) kind named

abbrev pub has_maps : State → Checked → Bool
has_maps s code = list_all (λ m. is_live_in s (Map m.0)) code.maps

abbrev pub loaded : State → ℕ → HostProg → List ℕ → Outcome
loaded s id prog path =
    if map.contains_key s.progs id then Err EEXIST else
    if not (has_maps s prog.code) then Err ENOENT else
    pinned_as (record s { progs = map.insert s.progs id prog }) (Prog id) path (Loaded id)

abbrev pub attached_to : State → ℕ → Bool → Option ℕ → Outcome
attached_to s prog overwrite found =
    option_map_or (λ position.
    if is_some (prog_at s.devices position) && not overwrite then Err EBUSY else
    Ok (settle (with_attached s position (Some prog)), Done)
    ) found (Err ENOENT)

abbrev pub detached_from : State → Option ℕ → Outcome
detached_from s found =
    option_map_or (λ position. if is_some (prog_at s.devices position) then Ok (settle (with_attached s position None), Done) else Err ENOENT) found (Err ENOENT)
