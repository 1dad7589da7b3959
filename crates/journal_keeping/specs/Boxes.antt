-- The boxes and the ids that a book keeps: those of the maps and programs in its base, in a moment or in an undone one.
use Rattle.std.specs.Prelude.{◌≡◌, ◌⊎◌, ⊤, ◌<◌, ◌≤◌, ◌++◌, ◌||◌, nat_lt, ℕ, Bool, true, List, [], ◌∷◌, reverse, IsTrue, Some, map as each}
use Rattle.std.specs.FinMap as map
use Rattle.bt_objects.specs.Ids.{is_among}
use Rattle.bt_objects.specs.declared.make.Make.{Make}
use Rattle.bt_roots.specs.declared.target.Target.TheVariants.{Map, Prog}
use Rattle.bt_objects.specs.ById.{ById}
use Rattle.host_state.specs.State.{State}
use Rattle.host_state.specs.Settled.{is_live_in}
use Rattle.host_state.specs.World.{makes_in}
use Rattle.host_state.specs.declared.reply.Reply.{Reply}
use Rattle.journal_model.specs.Told.{id_told, prog_told}
use Rattle.journal_model.specs.Plain.{Past, Pasts, now}
use Rattle.journal_model.specs.Well.{Each, Tells, IdsUpTo}
use Rattle.journal_timeline.specs.Retired.{NoneRetired}
use Rattle.journal_timeline.specs.Listed.{Rises}
use Rattle.journal_timeline.specs.View.{LineView}
use Rattle.journal_keeping.specs.declared.ids.LastIds.{LastIds}

-- the states of the undone moments, of those in force and of the base, the newest first
abbrev pub states_of : Pasts → List State
states_of p = reverse (each (λ (m : Past). m.state) p.undone) ++ (each (λ (m : Past). m.state) p.moments ++ p.base ∷ [])

-- ---- the last ids that had been given
-- before the first moment of a new book none had been
abbrev pub none_given : LastIds
none_given = record { map_id = 0; prog_id = 0 }

-- those of the base and of the moments, undone ones among them, the newest first
abbrev pub lasts_of : LastIds → List LastIds → List LastIds
lasts_of base lasts = reverse lasts ++ base ∷ []

abbrev pub newest : List LastIds → LastIds
newest [] = none_given
newest (last ∷ older) = last

-- none of these is above the others
abbrev pub IsUpTo : LastIds → LastIds → Type 0
IsUpTo last older = (older.map_id ≤ last.map_id) × (older.prog_id ≤ last.prog_id)

-- ---- ids
-- no id of a list is above the last
abbrev pub AreBelow : List ℕ → ℕ → Type 0
AreBelow ids last = (id : ℕ) → is_among ids id ≡ true → id ≤ last

abbrev pub ListsProgs : List ℕ → State → Type 0
ListsProgs progs s = (id : ℕ) → map.contains_key s.progs id ≡ true → is_among progs id ≡ true

-- ---- boxes
-- a state, with the last ids when it was made and those of the older states: its maps have their boxes, none of its ids is
-- above the last, and a box whose id was given for it is of one of its maps
pub record IsKept (makes : ById Make) (s : State) (last : LastIds) (older : List LastIds) : Type 0 where
  pub tells : Tells makes s
  pub within : IdsUpTo last.map_id last.prog_id s
  pub rises : Each (IsUpTo last) older
  pub gave : (id : ℕ) (make : Make) → map.get makes id ≡ Some make → id ≤ last.map_id → Each (λ (l : LastIds). l.map_id < id) older → map.get (makes_in s) id ≡ Some make

-- so is each of these states, the newest first
abbrev pub AreKept : ById Make → List State → List LastIds → Type 0
AreKept makes [] [] = ⊤
AreKept makes [] (last ∷ older) = ⊥
AreKept makes (s ∷ ss) [] = ⊥
AreKept makes (s ∷ ss) (last ∷ older) = IsKept makes s last older × AreKept makes ss older

-- an object of a state was in the state before, or its id was given since
pub record HasCome (s before : State) (last : LastIds) : Type 0 where
  pub maps : (id : ℕ) → map.contains_key s.maps id ≡ true → (map.contains_key before.maps id ≡ true) ⊎ (last.map_id < id)
  pub progs : (id : ℕ) → map.contains_key s.progs id ≡ true → (map.contains_key before.progs id ≡ true) ⊎ (last.prog_id < id)

abbrev pub HasComeFrom : State → List State → List LastIds → Type 0
HasComeFrom s [] lasts = ⊤
HasComeFrom s (t ∷ ts) [] = ⊤
HasComeFrom s (t ∷ ts) (last ∷ older) = HasCome s t last

-- so it is of each of these states, the newest first
abbrev pub AllCome : List State → List LastIds → Type 0
AllCome [] lasts = ⊤
AllCome (s ∷ ss) [] = ⊤
AllCome (s ∷ ss) (last ∷ older) = HasComeFrom s ss older × AllCome ss older

-- in the oldest of these states, which come newest first, no object has retired
abbrev pub LivesAtLast : State → List State → Type 0
LivesAtLast s [] = NoneRetired s
LivesAtLast s (older ∷ states) = LivesAtLast older states

abbrev pub LivesInBase : List State → Type 0
LivesInBase [] = ⊤
LivesInBase (s ∷ older) = LivesAtLast s older

-- the states have their boxes, and there are no others; the ids of the boxes are listed, ascending; and so are those of
-- the programs; and nothing has retired in the base
pub record KeepsBoxes (makes : ById Make) (states : List State) (lasts : List LastIds) (maps progs : List ℕ) : Type 0 where
  pub kept : AreKept makes states lasts
  pub come : AllCome states lasts
  pub ids : (id : ℕ) → is_among maps id ≡ map.contains_key makes id
  pub maps_below : AreBelow maps (newest lasts).map_id
  pub progs_below : AreBelow progs (newest lasts).prog_id
  pub maps_ascend : Rises maps
  pub progs_ascend : Rises progs
  pub progs_listed : Each (ListsProgs progs) states
  pub base_lives : LivesInBase states

-- ---- a moment that is made
-- no id of a list of last ids is as high as this one
abbrev pub IsNewMap : List LastIds → ℕ → Type 0
IsNewMap lasts id = Each (λ (l : LastIds). l.map_id < id) lasts

abbrev pub IsNewProg : List LastIds → ℕ → Type 0
IsNewProg lasts id = Each (λ (l : LastIds). l.prog_id < id) lasts

-- a moment was appended to moments whose boxes were kept, and undone ones were given up. Its state has what the one before
-- it had, or less, and the object that the reply tells of, if it tells of one
pub record IsMade (line : LineView) (lasts : List LastIds) (maps progs : List ℕ) (last : LastIds) (reply : Reply) : Type 0 where
  pub before : LineView
  pub kept : KeepsBoxes before.makes (states_of before.pasts) lasts maps progs
  pub moment : Past
  pub pasts : line.pasts ≡ record { base = before.pasts.base; moments = moment ∷ before.pasts.moments; undone = [] }
  pub tells : Tells line.makes moment.state
  pub maps_from : (id : ℕ) → IsTrue (map.contains_key moment.state.maps id) → IsTrue (map.contains_key (now before.pasts).maps id) ⊎ (id_told reply ≡ Some id)
  pub progs_from : (id : ℕ) → IsTrue (map.contains_key moment.state.progs id) → IsTrue (map.contains_key (now before.pasts).progs id) ⊎ (prog_told reply ≡ Some id)
  pub had : (id : ℕ) (make : Make) → map.get before.makes id ≡ Some make → map.get line.makes id ≡ Some make
  pub new : (id : ℕ) (make : Make) → map.get line.makes id ≡ Some make → (map.get before.makes id ≡ Some make) ⊎ ((id_told reply ≡ Some id) × (map.get (makes_in moment.state) id ≡ Some make))
  pub has_box : (id : ℕ) → id_told reply ≡ Some id → IsTrue (map.contains_key line.makes id)
  pub new_map : (id : ℕ) → id_told reply ≡ Some id → IsNewMap lasts id × (id ≤ last.map_id)
  pub new_prog : (id : ℕ) → prog_told reply ≡ Some id → IsNewProg lasts id × (id ≤ last.prog_id)
  pub rises : Each (IsUpTo last) lasts

-- ---- a new base
-- an id is kept if it was given since the last of these, or if its object is live
abbrev pub keeps_map : LastIds → State → ℕ → Bool
keeps_map last s id = nat_lt last.map_id id || is_live_in s (Map id)

abbrev pub keeps_prog : LastIds → State → ℕ → Bool
keeps_prog last s id = nat_lt last.prog_id id || is_live_in s (Prog id)
