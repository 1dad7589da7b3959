-- What turning an undoing keeps, and what a change of one key of a map of bytes retires.
use Rattle.std.specs.Prelude.{◌≡◌, ◌&&◌, ℕ, true, not, IsTrue, List, [], Some, Ok}
use Rattle.std.specs.FinMap as map
use Rattle.bt_mapkind.specs.Attributes.{good}
use Rattle.bt_mapkind.specs.Well.{IsWell}
use Rattle.host_state.specs.State.{HostMap, State}
use Rattle.host_state.specs.World.{Ready}
use Rattle.host_state.specs.Settled.{IsSettled, is_live_in, is_listed}
use Rattle.host_state.specs.Act.{act}
use Rattle.host_state.specs.declared.change.Change.TheVariants.{Operate}
use Rattle.host_state.specs.declared.change.Origin.{Origin}
use Rattle.host_state.specs.declared.reply.Reply.{Reply}
use Rattle.bt_mapkind.specs.declared.request.MapOp.{MapOp}
use Rattle.bt_roots.specs.declared.target.Target.{Target}
use Rattle.host_undoing.specs.declared.undoing.Part.{Part}
use Rattle.host_undoing.specs.Answers.{ExchangesFor}
use Rattle.host_undoing.specs.declared.undoing.Undoing.{Undoing}
use Rattle.host_undoing.specs.Exchange.{turned, Fits}
use Rattle.host_apart.specs.Spots.{back_of_part, is_keyed_back}

-- a map holds what such a map can hold, and its attributes are good
abbrev pub IsWellMap : HostMap → Type 0
IsWellMap m = IsWell m.attr m.contents × IsTrue (good m.attr)

-- each map of a state is so, live or retired
abbrev pub AreWell : State → Type 0
AreWell s = (id : ℕ) (m : HostMap) → map.get s.maps id ≡ Some m → IsWellMap m

abbrev pub TurnsWell : Ready → State → Undoing → Type 0
TurnsWell ready s u = AreWell s → Fits ready s u → AreWell (turned s u)

-- just the objects that were live before and are not after are listed
abbrev pub RetiresJust : State → State → List Target → Type 0
RetiresJust before after targets = (target : Target) → is_listed targets target ≡ is_live_in before target && not (is_live_in after target)

-- an accepted operation that is taken back by an exchange of one key of a map of bytes retires nothing
abbrev pub RetiresNothing : State → State → Origin → ℕ → MapOp → Reply → Part → List Target → Type 0
RetiresNothing s t origin id op reply part targets =
    AreWell s → IsSettled s → act s (Operate origin id op) ≡ Ok (t, reply) → ExchangesFor s id op part → is_keyed_back (back_of_part part) ≡ true
    → RetiresJust s t targets → targets ≡ []
