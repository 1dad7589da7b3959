-- What a world promises of a change, and of the undoing that takes it back.
use Rattle.std.specs.Prelude.{◌≡◌, ◌&&◌, ℕ, ⊤, true, false, not, Some, None, Result, Ok, Err}
use Rattle.std.specs.FinMap as map
use Rattle.host_state.specs.Prelude.{MapOp, map_step, RootBack, Target, IsAscending}
use Rattle.host_undoing.specs.Prelude.{Change, Reply, Refusal, Errno, NoMemory, HostMap, State, is_live_in, is_listed, act, Ready, WorldView}
use Rattle.bt_mapkind.specs.declared.request.MapOp.TheVariants.{SetLink}
use Rattle.bt_mapkind.specs.Step.{Changed}
use Rattle.host_state.specs.declared.change.Change.TheVariants.{Create, Operate, Freeze, Link, Load, Attach}
use Rattle.host_state.specs.declared.reply.Refusal.TheVariants.{WrongBlank}
use Rattle.host_state.specs.Act.{Outcome}
use Rattle.host_state.specs.World.{SameBoxes}
use Rattle.host_state.specs.declared.retirement.Retirement.{Retirement}
use Rattle.host_undoing.specs.declared.undoing.Part.{Part}
use Rattle.host_undoing.specs.declared.undoing.Part.TheVariants.{Contents, Frozen, Presence, Program, Pinned}
use Rattle.host_undoing.specs.declared.undoing.Undoing.{Undoing}
use Rattle.host_undoing.specs.Exchange.{Joins, back_of}

-- ---- what takes a change back
-- the exchange is the one that the table gives for an operation on the map of this id
pub record ExchangesFor (s : State) (id : ℕ) (op : MapOp) (part : Part) : Type 0 where
  pub host : HostMap
  pub there : map.get s.maps id ≡ Some host
  pub changed : Changed
  pub step : map_step host.attr host.contents op ≡ Ok changed
  pub room : ℕ
  pub is : part ≡ Contents id (record { back = changed.back; room = room })

-- the part of a state that takes a change back is the change's own
abbrev pub IsOwn : State → Change → Part → Type 0
IsOwn s (Create id attr charge name path template) part = (pin : RootBack) × (part ≡ Presence id (record { attr = attr; charge = charge }) None pin)
IsOwn s (Operate origin id op) part = ExchangesFor s id op part
IsOwn s (Freeze id) part = part ≡ Frozen id false
IsOwn s (Link id key named flag) part = ExchangesFor s id (SetLink key named flag) part
IsOwn s (Load id code name path) part = (pin : RootBack) × (part ≡ Program id None pin)
IsOwn s _ part = (pin : RootBack) × (part ≡ Pinned pin)

-- just what was live before and is not after has retired, each once and in ascending order, and is live again after the
-- next turning
pub record Retires (before after : State) (retired : Retirement) : Type 0 where
  pub lists : (target : Target) → is_listed retired.targets target ≡ is_live_in before target && not (is_live_in after target)
  pub ascends : IsAscending retired.targets
  pub live : retired.live ≡ true

-- ---- a change
-- a create has a box of its id with its attributes and its charge
abbrev pub HasBlank : Ready → Change → Type 0
HasBlank ready (Create id attr charge name path template) = map.get ready.makes id ≡ Some (record { attr = attr; charge = charge })
HasBlank ready _ = ⊤

-- the changes that take no memory: a freeze, and an attachment that may not overwrite
abbrev pub TakesNoMemory : Change → Type 0
TakesNoMemory (Freeze id) = ⊤
TakesNoMemory (Attach prog device overwrite) = overwrite ≡ false
TakesNoMemory _ = ⊥

-- what comes to this outcome is done: the state after it and its reply are those of the outcome; the undoing is its own and
-- joins the two states; and it lists what has retired
pub record IsDone (outcome : Outcome) (Own : Part → Type 0) (old : WorldView) (reply : Reply) (undoing : Undoing) (new : WorldView) : Type 0 where
  pub acts : outcome ≡ Ok (new.state, reply)
  pub joins : Joins new.ready old.state new.state undoing (back_of new.state undoing)
  pub own : Own undoing.part
  pub retires : Retires old.state new.state undoing.retired
  pub boxes : SameBoxes old.ready new.ready

-- nothing that shows has changed
pub record IsUnchanged (old new : WorldView) : Type 0 where
  pub state : new.state ≡ old.state
  pub boxes : SameBoxes old.ready new.ready

-- why a change was refused
abbrev pub IsReason : WorldView → Change → Refusal → Type 0
IsReason old change (Errno errno) = HasBlank old.ready change × (act old.state change ≡ Err errno)
IsReason old change NoMemory = ⊤
IsReason old change WrongBlank = ¬ (HasBlank old.ready change)
IsReason old change _ = ⊥

abbrev pub Answers : WorldView → Change → Result (Reply × Undoing) Refusal → WorldView → Type 0
Answers old change (Ok done) new = IsDone (act old.state change) (IsOwn old.state change) old done.0 done.1 new
Answers old change (Err refusal) new = IsReason old change refusal × IsUnchanged old new
