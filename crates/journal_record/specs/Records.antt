-- Records in place, records turned back, and one that is exchanged below others.
use Rattle.std.specs.Prelude.{◌≡◌, ◌≢◌, true, List, [], ◌∷◌, map, reverse, Option, Some, None, Ok}
use Rattle.bt_roots.specs.declared.target.Target.{Target}
use Rattle.host_state.specs.State.{State}
use Rattle.host_state.specs.World.{Ready}
use Rattle.host_state.specs.Act.{act}
use Rattle.host_undoing.specs.Exchange.{turned, back_of, Joins}
use Rattle.host_undoing.specs.Answers.{IsOwn}
use Rattle.host_apart.specs.Alike.{HasByteKey}
pub use Rattle.host_apart.specs.Laws.{RetiresJust}
use Rattle.host_apart.specs.Spots.{are_apart}
use Rattle.journal_model.specs.Replay.{Entry}
use Rattle.journal_record.specs.After.{after, state_after}
use Rattle.journal_record.specs.Recorded.{Recorded}

abbrev pub entry_of : Recorded → Entry
entry_of r = r.entry

abbrev pub entries : List Recorded → List Entry
entries rs = map entry_of rs

-- the objects that a record's change retired
abbrev pub retired_by : Recorded → List Target
retired_by r = r.undoing.retired.targets

-- a record in place: from s its change gave its reply, its undoing is the change's own, with a key of bytes if it has one, and
-- leads back to s, and it lists what the change retired
pub record IsStanding (ready : Ready) (s : State) (r : Recorded) : Type 0 where
  pub acts : act s r.entry.change ≡ Ok (after s r.entry, r.entry.reply)
  pub own : IsOwn s r.entry.change r.undoing.part
  pub bytes : HasByteKey r.undoing.part
  pub joins : Joins ready s (after s r.entry) r.undoing (back_of (after s r.entry) r.undoing)
  pub retires : RetiresJust s (after s r.entry) (retired_by r)

-- a record turned back: from s its change gives its reply, its undoing leads there, and from there is the change's own, and it
-- lists what the change retires
pub record IsLying (ready : Ready) (s : State) (r : Recorded) : Type 0 where
  pub acts : act s r.entry.change ≡ Ok (after s r.entry, r.entry.reply)
  pub own : IsOwn s r.entry.change (back_of s r.undoing).part
  pub bytes : HasByteKey r.undoing.part
  pub joins : Joins ready s (after s r.entry) (back_of s r.undoing) r.undoing
  pub retires : RetiresJust s (after s r.entry) (retired_by r)

-- a record in place, turned back to s
unfoldable pub lay : State → Recorded → Recorded
lay s r = record { entry = r.entry; undoing = back_of (after s r.entry) r.undoing }

-- a record turned back, put in place from s
unfoldable pub stand : State → Recorded → Recorded
stand s r = record { entry = r.entry; undoing = back_of s r.undoing }

-- records in place one after another from s on, the oldest first
abbrev pub AllStanding : Ready → State → List Recorded → Type 0
AllStanding ready s [] = Unit {0}
AllStanding ready s (r ∷ rs) = IsStanding ready s r × AllStanding ready (after s r.entry) rs

abbrev pub AllLying : Ready → State → List Recorded → Type 0
AllLying ready s [] = Unit {0}
AllLying ready s (r ∷ rs) = IsLying ready s r × AllLying ready (after s r.entry) rs

abbrev pub laid : State → List Recorded → List Recorded
laid s [] = []
laid s (r ∷ rs) = lay s r ∷ laid (after s r.entry) rs

abbrev pub stood : State → List Recorded → List Recorded
stood s [] = []
stood s (r ∷ rs) = stand s r ∷ stood (after s r.entry) rs

-- the state that turning records back leads to, the newest first
abbrev pub unwound : State → List Recorded → State
unwound w [] = w
unwound w (r ∷ rs) = unwound (turned w r.undoing) rs

-- the state below records in place, the oldest first
abbrev pub foot : State → List Recorded → State
foot w rs = unwound w (reverse rs)

-- records in place, from s up to the state w
pub record Leads (ready : Ready) (s w : State) (rs : List Recorded) : Type 0 where
  pub standing : AllStanding ready s rs
  pub top : w ≡ state_after s (entries rs)

-- one that may be there
abbrev pub others : Option Recorded → List Recorded
others None = []
others (Some r) = r ∷ []

-- a later record is of another change, which is apart from that of one that is exchanged below it
pub record IsSpared (one later : Recorded) : Type 0 where
  pub apart : are_apart one.entry.change one.undoing.part later.entry.change later.undoing.part ≡ true
  pub serials : one.entry.serial ≢ later.entry.serial
