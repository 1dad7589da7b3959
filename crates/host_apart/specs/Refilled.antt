-- A state in which the contents of one map are made others.
use Rattle.std.proofs.Common.{cond}
use Rattle.std.specs.Prelude.{◌≡◌, ⊤, ℕ, true, false, Ok, Err}
use Rattle.std.specs.FinMap as map
use Rattle.std.specs.Ordering.{nat_cmp, eq_by_cmp}
use Rattle.bt_mapkind.specs.Contents.{Contents as Held}
use Rattle.bt_mapkind.specs.Exchange.{exchanged}
use Rattle.bt_mapkind.specs.declared.exchange.Back.{Back}
use Rattle.bt_objects.specs.ById.{mapped}
use Rattle.host_state.specs.State.{HostMap, State}
use Rattle.host_state.specs.Settled.{ids_in}
use Rattle.host_state.specs.Act.{Outcome, act}
use Rattle.host_state.specs.declared.change.Change.{Change}
use Rattle.host_state.specs.declared.change.Change.TheVariants.{Operate, Link}
use Rattle.host_state.specs.World.{Ready}
use Rattle.host_undoing.specs.declared.undoing.Part.{Part}
use Rattle.host_undoing.specs.declared.undoing.Part.TheVariants.{Contents, Presence}
use Rattle.host_undoing.specs.declared.undoing.Undoing.{Undoing}
use Rattle.host_undoing.specs.Exchange.{Joins}

-- the ids that stand in contents stay
abbrev pub KeepsIds : (Held → Held) → Type 0
KeepsIds f = (c : Held) → ids_in (f c) ≡ ids_in c

abbrev pub map_refilled : ℕ → (Held → Held) → ℕ → HostMap → HostMap
map_refilled id f q m = record m { contents = cond (eq_by_cmp nat_cmp q id) (f m.contents) m.contents }

abbrev pub refilled : State → ℕ → (Held → Held) → State
refilled s id f = record s { maps = mapped (map_refilled id f) s.maps }

-- what an exchange leaves of contents
abbrev pub exchanged_by : Back → Held → Held
exchanged_by b c = (exchanged c b).0

-- an outcome, in which the contents are made others
abbrev pub carried : ℕ → (Held → Held) → Outcome → Outcome
carried id f (Ok done) = Ok (refilled done.0 id f, done.1)
carried id f (Err errno) = Err errno

-- a change that asks nothing of what the map holds
abbrev pub IsElsewhere : ℕ → Change → Type 0
IsElsewhere id (Operate origin q op) = eq_by_cmp nat_cmp q id ≡ false
IsElsewhere id (Link q key named flag) = eq_by_cmp nat_cmp q id ≡ false
IsElsewhere id _ = ⊤

abbrev pub ActsElsewhere : State → ℕ → (Held → Held) → Change → Type 0
ActsElsewhere s id f change =
    KeepsIds f → map.contains_key s.maps id ≡ true → IsElsewhere id change → act (refilled s id f) change ≡ carried id f (act s change)

-- an exchange that asks nothing of what the map holds
abbrev pub IsPartElsewhere : ℕ → Part → Type 0
IsPartElsewhere id (Contents q k) = eq_by_cmp nat_cmp q id ≡ false
IsPartElsewhere id (Presence q make entry pin) = eq_by_cmp nat_cmp q id ≡ false
IsPartElsewhere id _ = ⊤

-- two states that an exchange joins, and its other face, are joined so when the contents are made others in both
abbrev pub JoinsElsewhere : Ready → State → State → ℕ → (Held → Held) → Undoing → Undoing → Type 0
JoinsElsewhere ready s t id f v forth =
    KeepsIds f → IsPartElsewhere id v.part → Joins ready s t v forth → Joins ready (refilled s id f) (refilled t id f) v forth
