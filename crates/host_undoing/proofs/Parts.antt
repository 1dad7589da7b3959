-- How an exchange of a part alone joins two states, what is exchanged of a map, if one is there, and an accepted change.
use Rattle.std.specs.Prelude.{◌≡◌, ◌||◌, ℕ, Bool, IsTrue, Option}
use Rattle.std.specs.Option.{option_map_or}
use Rattle.bt_mapkind.specs.declared.exchange.Back.{Back}
use Rattle.bt_mapkind.specs.Exchange.{exchanged}
use Rattle.bt_mapkind.specs.Kept.{Kept}
use Rattle.host_state.specs.declared.change.Change.{Change}
use Rattle.host_state.specs.declared.reply.Reply.{Reply}
use Rattle.host_state.specs.Act.{act, with_contents, with_frozen}
use Rattle.host_undoing.specs.Answers.{IsDone, IsOwn}
use Rattle.bt_roots.specs.declared.target.Target.{Target}
use Rattle.host_state.specs.State.{HostMap, State}
use Rattle.host_state.specs.Settled.{is_live_in}
use Rattle.host_state.specs.World.{Ready, WorldView}
use Rattle.host_undoing.specs.declared.undoing.Part.{Part}
use Rattle.host_undoing.specs.declared.undoing.Undoing.{Undoing}
use Rattle.host_undoing.specs.Exchange.{part_turned, part_back, FitsPlace}

abbrev pub contents_turned : State → ℕ → Back → Option HostMap → State
contents_turned s id back found = option_map_or (λ m. with_contents s id m (exchanged m.contents back).0) found s

abbrev pub contents_back : Kept → Option HostMap → Kept
contents_back k found = option_map_or (λ m. record k { back = (exchanged m.contents k.back).1 }) found k

abbrev pub frozen_turned : State → ℕ → Bool → Option HostMap → State
frozen_turned s id frozen found = option_map_or (λ m. with_frozen s id m frozen) found s

abbrev pub frozen_back : Bool → Option HostMap → Bool
frozen_back frozen found = option_map_or (λ m. m.frozen) found frozen

-- an object is live in one of two states
abbrev pub LivesInOne : State → State → Target → Type 0
LivesInOne before after target = IsTrue (is_live_in before target || is_live_in after target)

-- `back` leads from after to before, and its other face `forth` from before to after
pub record PartJoins (ready : Ready) (before after : State) (back forth : Part) : Type 0 where
  pub back_place : FitsPlace ready after back
  pub back_state : part_turned after back ≡ before
  pub back_face : part_back after back ≡ forth
  pub forth_place : FitsPlace ready before forth
  pub forth_state : part_turned before forth ≡ after
  pub forth_face : part_back before forth ≡ back

-- an accepted change
abbrev pub IsApplied : WorldView → Change → Reply → Undoing → WorldView → Type 0
IsApplied old change reply undoing new = IsDone (act old.state change) (IsOwn old.state change) old reply undoing new
