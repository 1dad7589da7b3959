-- What an operation on one map does to the parts of a world, and what stands against it.
use Rattle.std.specs.Prelude.{◌≡◌, ℕ, Bool, false, List, Option, Some, None, is_some, Result, Ok, Err, IsTrue, ◌&&◌, not, if◌then◌else◌}
use Rattle.std.specs.Option.{option_or, option_and_then, option_map_or}
use Rattle.std.specs.FinMap as map
use Rattle.host_state.specs.Prelude.{MapAttr, Errno as Error, ENOENT, EINVAL, EPERM, MapOp, Seen, map_step, is_flag, ById, form_fault}
use Rattle.host_undoing.specs.Prelude.{Reply, Refusal, Errno, NoMemory, HostMap, named_in, is_console, WorldView}
use Rattle.bt_mapkind.specs.declared.request.MapOp.TheVariants.{SetLink}
use Rattle.bt_mapkind.specs.declared.request.MapFault.{MapFault}
use Rattle.bt_mapkind.specs.declared.request.MapFault.TheVariants as fault
use Rattle.host_state.specs.declared.change.Origin.{Origin}
use Rattle.host_state.specs.Act.{operated_to, object_fault}
use Rattle.host_undoing.specs.declared.undoing.Undoing.{Undoing}
use Rattle.host_state.specs.Hosts.{Entries, live_in, live_target_in}
use Rattle.host_undoing.specs.Answers.{ExchangesFor, IsDone, IsUnchanged}
use Rattle.host_state.specs.Work.{link_under}
use Rattle.bt_mapkind.specs.Contents.{Contents}
use Rattle.bt_mapkind.specs.Inner.{holds_ids}

-- why an operation on a live map is not done, whatever it holds, or on none
abbrev pub operation_fault : Option Bool → Origin → ℕ → Option Error
operation_fault None origin flag = Some ENOENT
operation_fault (Some frozen) origin flag =
    if not (is_flag flag) then Some EINVAL else
    if is_console origin && frozen then Some EPERM else
    None

-- why a link is not put into the map of a box, whose inner maps agree with the template: its form, or what it names
abbrev pub link_fault : ById Seen → Entries → Option MapAttr → Option Seen → List ℕ → ℕ → ℕ → Option Error
link_fault boxes entries template box key named flag =
    option_and_then (λ s.
    option_or (form_fault s.attr key flag)
    (object_fault (live_in boxes entries) (live_target_in entries) template (named_in s.attr.kind named))
    ) box

-- why an operation is refused that its box refuses
abbrev pub refused_by : MapFault → Refusal
refused_by (fault.Errno errno) = Errno errno
refused_by fault.NoMemory = NoMemory

-- the id that an operation puts into a map
abbrev pub Puts : MapOp → ℕ → Type 0
Puts (SetLink key id flag) named = named ≡ id
Puts _ named = ⊥

-- what it names is live
abbrev pub PutsLive : ById Seen → Entries → ℕ → MapOp → Type 0
PutsLive boxes entries id op = (s : Seen) (named : ℕ) → map.get boxes id ≡ Some s → Puts op named → IsTrue (live_target_in entries (named_in s.attr.kind named))

-- whether an operation that is accepted takes a link away: one that puts an id does if one stands under its key, any other
-- if the map holds ids
abbrev pub takes_link : MapAttr → Contents → MapOp → Bool
takes_link a c (SetLink key id flag) = is_some (link_under c key)
takes_link a c _ = holds_ids a.kind

abbrev pub takes_link_at : Option Seen → MapOp → Bool
takes_link_at box op = option_map_or (λ s. takes_link s.attr s.contents op) box false

-- it is done as the table says, and what is unreachable has retired; or the table refuses it, or memory was wanted, and
-- nothing has changed
abbrev pub OperatesOn : WorldView → ℕ → MapOp → Result (Reply × Undoing) Refusal → WorldView → Type 0
OperatesOn old id op (Ok done) new =
    (m : HostMap) × (map.get old.state.maps id ≡ Some m) × IsDone (operated_to old.state id m op (map_step m.attr m.contents op)) (ExchangesFor old.state id op) old done.0 done.1 new
OperatesOn old id op (Err (Errno errno)) new =
    (m : HostMap) × (map.get old.state.maps id ≡ Some m) × (map_step m.attr m.contents op ≡ Err errno) × IsUnchanged old new
OperatesOn old id op (Err NoMemory) new = IsUnchanged old new
OperatesOn old id op (Err _) new = ⊥
